use Rattle.std.proofs.Common.{[], ◌∷◌, ◌++◌, ap, ◌∙◌, arith}
use Rattle.std.proofs.lemmas.List.{take_all}
use Rattle.link_paths.specs.Places.{revision_path}
use Rattle.files_service.specs.declared.change.FileChange.TheVariants as file
use Rattle.files_service.proofs.DroppingLaws.{removals, one_more_removal, all_removals}
use Rattle.files_service.proofs.dropping.files_of.Goals as goal

pub loop-tag-preserved : goal.loop-tag-preserved
loop-tag-preserved c =
    one_more_removal c.args.name.now c.args.tags.now c.loop-tag.tag-index c.tag-item.result c.loop-tag.files.items c.push.new.self.items (omega arith) c.tag-item.is c.loop-tag.invariant
    (c.in_ok-push.ensures.items ∙ ap (λ p. c.loop-tag.files.items ++ file.Remove p ∷ []) c.in_ok-at.ensures.path)

pub returns : goal.returns
returns c =
    let name = c.args.name.now in
    let digest = c.args.digest.now in
    c.in_ok-push-2.ensures.items ∙ ap (λ p. c.loop-tag.files.items ++ file.Remove p ∷ []) c.in_ok-at-2.ensures.path
    ∙ ap (λ fs. fs ++ file.Remove (revision_path name digest) ∷ []) (c.loop-tag.invariant ∙ ap (removals name) (take_all c.loop-tag.tag-index c.args.tags.now (omega arith)))
    ∙ all_removals name digest c.args.tags.now
