use Rattle.std.proofs.Common.{rules, ◌≡◌, Some, None, Ok, subst}
use Rattle.std.specs.Prelude.{IfOk}
use Rattle.depot_api.specs.Holdings.{Finds}
use Rattle.link_reading.specs.Meaning.{Means}
use Rattle.reg_entries.specs.Numbers.{manifest_unknown}
use Rattle.reg_entries.specs.declared.ask.Ask.TheVariants as asks
use Rattle.reg_model.specs.Answers.{LacksIn, plain}
use Rattle.files_service.specs.Answers.{Answers}
use Rattle.files_service.proofs.AnswerLaws.{manifest_found, manifest_missing}
use Rattle.files_service.proofs.manifests.pull_manifest.Goals as goal

pub returns-in-Some-clause-answer : goal.returns-in-Some-clause-answer
returns-in-Some-clause-answer g c =
    let found : c.find_manifest.result ≡ Ok (Some c.in-Some.found) = search rules in
    manifest_found _ c.args.name.now c.args.at.now c.find_manifest.result c.in-Some.found found c.find_manifest.ensures.value c.find_manifest.ensures.verified c.find_manifest.ensures.named

pub returns-in-None-clause-answer : goal.returns-in-None-clause-answer
returns-in-None-clause-answer g c =
    let found : c.find_manifest.result ≡ Ok None = search rules in
    let lacks = subst (λ held. Finds held c.lacks.result (λ files. LacksIn (Means files) c.args.name.now manifest_unknown)) c.find_manifest.ensures.reads.held_stays c.lacks.ensures.value in
    let answers = manifest_missing (g.D.Depot.held c.args.depot.now) c.args.name.now c.args.at.now c.find_manifest.result found c.find_manifest.ensures.value c.lacks.result lacks c.lacks.ensures.fits in
    let told : IfOk c.lacks.result (λ reply. Answers (g.D.Depot.held c.args.depot.now) (asks.GetManifest c.args.name.now c.args.at.now) (plain reply)) = answers in
    search (rules, told)
