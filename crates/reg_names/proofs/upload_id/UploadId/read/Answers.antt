use Rattle.std.proofs.Common.{◌≡◌, nat_eq, None, Some, sym, ap, ◌∙◌}
use Rattle.std.specs.Prelude.{Ok}
use Rattle.std.specs.Bool.{then_some}
use Rattle.std.specs.Cmp.Lexicographic.{pointwise}
use Rattle.uuid.specs.Text.{parsed_hyphenated}
use Rattle.reg_names.specs.UploadIds.{upload_id_named}
use Rattle.reg_names.proofs.UploadIdTexts.{named-exact, named-parsed, named-unparsed, None-from}
use Rattle.reg_names.proofs.upload_id.UploadId.read.Goals as goal

-- a text that does not parse names no id
unread : (c : goal.In_default) → upload_id_named c.args.text.now ≡ None
unread c = named-unparsed c.args.text.now (None-from (parsed_hyphenated c.args.text.now) (λ h. cc (c.in_default.ensures.value.0.1 h)))

pub returns-in_default-clause-value : goal.returns-in_default-clause-value
returns-in_default-clause-value c = ap Ok (sym (unread c))

pub returns-in_default-clause-exact : goal.returns-in_default-clause-exact
returns-in_default-clause-exact c = rw (unread c) at (named-exact c.args.text.now)

-- the id that is found is the one that the text names
found : (c : goal.After-then_some) → c.then_some.result ≡ upload_id_named c.args.text.now
found c =
    let id = c.of_uuid-id.result in
    let parsed = sym c.in-Ok.ensures.value.1 ∙ ap Some (sym (c.of_uuid-id.ensures ∙ c.into_uuid.ensures)) in
    let same = c.eq.ensures ∙ ap (pointwise nat_eq c.args.text.now) c.write.ensures in
    c.then_some.ensures ∙ ap (λ b. then_some b id) same ∙ sym (named-parsed c.args.text.now id parsed)

pub returns-clause-value : goal.returns-clause-value
returns-clause-value c = ap Ok (found c)

pub returns-clause-exact : goal.returns-clause-exact
returns-clause-exact c = rw (found c) (named-exact c.args.text.now)
