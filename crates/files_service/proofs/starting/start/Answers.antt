use Rattle.std.proofs.Common.{◌≡◌, ℕ, List, [], ◌∷◌, Option, None, Some, false, refl, ap, ◌∙◌, arith, rules}
use Rattle.std.specs.Prelude.{is_some, not}
use Rattle.link_paths.specs.Places.{layer_path}
use Rattle.reg_model.specs.Changing.{Starts, begins, start_outcome}
use Rattle.reg_model.specs.Uploads.{upload_at}
use Rattle.files_service.specs.Changing.{files_of, puts_link}
use Rattle.files_service.proofs.OutcomeLaws.{in_use, starts_by, none_is, some_is}
use Rattle.files_service.proofs.ServingLaws.{refused, served, told_of, found_of}
use Rattle.files_service.proofs.starting.start.Goals as goal

pub returns-then-branch : goal.returns-then-branch
returns-then-branch g c =
    let args = c.args in
    let reads = c.stands.ensures.reads in
    let stands = found_of (g.D.Depot.held args.depot.now) (λ files s. s ≡ is_some (upload_at files args.name.now args.id.now)) c.stands.result c.in_ok-stands.field-0 c.in_ok-stands.was c.stands.ensures.value in
    refused g.D.Depot.held g.D.Depot.faults (Starts args.name.now args.id.now args.mount.now args.now) args.depot.now c.stands.new.depot c.refusal.result reads.held_stays reads.cause.later
    (in_use args.name.now args.id.now args.mount.now args.now _ _ c.in_ok-stands.field-0 c.refusal.result c.if-branch.true c.refusal.ensures stands)

pub returns-in_default : goal.returns-in_default
returns-in_default g c =
    let args = c.args in
    let reads = c.stands.ensures.reads in
    let stands = found_of (g.D.Depot.held args.depot.now) (λ files s. s ≡ is_some (upload_at files args.name.now args.id.now)) c.stands.result c.in_ok-stands.field-0 c.in_ok-stands.was c.stands.ensures.value in
    served g.D.Depot.held g.D.Depot.faults (Starts args.name.now args.id.now args.mount.now args.now) args.depot.now c.stands.new.depot c.begin.new.depot (start_outcome args.name.now args.id.now None args.now false None) (files_of (begins args.name.now args.id.now args.now)) c.begin.result reads.held_stays reads.cause.later refl c.begin.ensures.reply
    (starts_by args.name.now args.id.now args.mount.now args.now _ _ c.in_ok-stands.field-0 None None c.if-branch.false (search rules) stands (λ t. refl)) c.begin.ensures.changes

pub returns-then-is_none : goal.returns-then-is_none
returns-then-is_none g c =
    let args = c.args in
    let old = g.D.Depot.held args.depot.now in
    let one = c.stands.ensures.reads in
    let two = c.has_layer.ensures.reads in
    let which : Option (List ℕ × List ℕ) = Some (c.in-Some.digest, c.in-Some.from) in
    let stands = found_of old (λ files s. s ≡ is_some (upload_at files args.name.now args.id.now)) c.stands.result c.in_ok-stands.field-0 c.in_ok-stands.was c.stands.ensures.value in
    let size = told_of old (g.D.Depot.held c.stands.new.depot) (λ state size. size ≡ state.links c.in-Some.from c.in-Some.digest) c.has_layer.result c.in_ok-has_layer.field-0 one.held_stays c.in_ok-has_layer.was c.has_layer.ensures.value in
    served g.D.Depot.held g.D.Depot.faults (Starts args.name.now args.id.now args.mount.now args.now) args.depot.now c.has_layer.new.depot c.begin-then-is_none.new.depot (start_outcome args.name.now args.id.now which args.now false None) (files_of (begins args.name.now args.id.now args.now)) c.begin-then-is_none.result (two.held_stays ∙ one.held_stays) (omega (arith, one.cause.later, two.cause.later)) refl c.begin-then-is_none.ensures.reply
    (starts_by args.name.now args.id.now args.mount.now args.now _ _ c.in_ok-stands.field-0 None which c.if-branch.false (search rules) stands (λ t. none_is c.in_ok-has_layer.field-0 (c.is_none.ensures ∙ ap not c.if-is_none.true) ∙ size t)) c.begin-then-is_none.ensures.changes

pub returns : goal.returns
returns g c =
    let args = c.args in
    let old = g.D.Depot.held args.depot.now in
    let one = c.stands.ensures.reads in
    let two = c.has_layer.ensures.reads in
    let which : Option (List ℕ × List ℕ) = Some (c.in-Some.digest, c.in-Some.from) in
    let stands = found_of old (λ files s. s ≡ is_some (upload_at files args.name.now args.id.now)) c.stands.result c.in_ok-stands.field-0 c.in_ok-stands.was c.stands.ensures.value in
    let size = told_of old (g.D.Depot.held c.stands.new.depot) (λ state size. size ≡ state.links c.in-Some.from c.in-Some.digest) c.has_layer.result c.in_ok-has_layer.field-0 one.held_stays c.in_ok-has_layer.was c.has_layer.ensures.value in
    let some = some_is c.in_ok-has_layer.field-0 (c.is_none.ensures ∙ ap not c.if-is_none.false) in
    served g.D.Depot.held g.D.Depot.faults (Starts args.name.now args.id.now args.mount.now args.now) args.depot.now c.has_layer.new.depot c.link.new.depot (start_outcome args.name.now args.id.now which args.now false (Some some.0)) (puts_link (layer_path args.name.now c.in-Some.digest) c.in-Some.digest ∷ []) c.link.result (two.held_stays ∙ one.held_stays) (omega (arith, one.cause.later, two.cause.later)) refl c.link.ensures.reply
    (starts_by args.name.now args.id.now args.mount.now args.now _ _ c.in_ok-stands.field-0 (Some some.0) which c.if-branch.false (search rules) stands (λ t. some.1 ∙ size t)) c.link.ensures.changes
