use Rattle.std.proofs.Common.{sym, ap, ◌∙◌}
use Rattle.std.specs.Prelude.{option_copied}
use Rattle.reg_entries.specs.declared.ask.Ask.TheVariants as asks
use Rattle.reg_plain.proofs.AnswerLaws.{answered}
use Rattle.reg_plain.proofs.state.State.answer.Goals as goal

pub returns-in-GetBlob : goal.returns-in-GetBlob
returns-in-GetBlob c =
    let k = c.in-GetBlob in
    answered c.blob.result c.args.self.now c.args.ask.now (asks.GetBlob k.name k.digest) k.is c.blob.ensures

pub returns-in-GetManifest : goal.returns-in-GetManifest
returns-in-GetManifest c =
    let k = c.in-GetManifest in
    answered c.manifest.result c.args.self.now c.args.ask.now (asks.GetManifest k.name k.at) k.is c.manifest.ensures

pub returns-in-Tags : goal.returns-in-Tags
returns-in-Tags c =
    let k = c.in-Tags in
    answered c.list.result c.args.self.now c.args.ask.now (asks.Tags k.name k.n (option_copied c.as_ref.result)) (k.is ∙ ap (asks.Tags k.name k.n) (sym c.as_ref.ensures.value)) c.list.ensures
