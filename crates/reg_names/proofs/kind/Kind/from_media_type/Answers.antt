-- The array's iterator yields the four kinds, so `find` answers the first whose media type is the text.
use Rattle.std.proofs.Common.{rules, tests, ◌≡◌, [], ◌∷◌, nat_eq, sym, ◌∙◌, ap}
use Rattle.std.specs.Cmp.Lexicographic.{pointwise}
use Rattle.std.specs.Array.Iter.{array_into_iter_items, array_steps}
use Rattle.std.specs.List.{find}
use Rattle.std.proofs.lemmas.Iterator.Consumers.{YieldsList-from_shown}
use Rattle.std.proofs.lemmas.Iterator.Search.{find_from_yields_List}
use Rattle.std.proofs.lemmas.Iterator.Adapters.{option_map_id}
use Rattle.reg_names.specs.Kinds.{media_type_of}
use Rattle.reg_names.specs.declared.kind.Kind.TheVariants.{OciImage, OciIndex, DockerImage, DockerList}
use Rattle.reg_names.proofs.kind.Kind.from_media_type.Goals as goal

pub returns : goal.returns
returns c =
    let kinds = YieldsList-from_shown array_steps (λ k. k) array_into_iter_items (λ s t h. h.0) (λ s x t h. h) c.into_iter.result in
    let found = find_from_yields_List (λ k. pointwise nat_eq c.args.text.now (media_type_of k)) _ _ c.find.result c.find.ensures.ran kinds (λ x b q k. search (rules, tests)) in
    let all : ◌≡◌ (array_into_iter_items c.into_iter.result) (OciImage ∷ OciIndex ∷ DockerImage ∷ DockerList ∷ []) = c.into_iter.ensures.into_iter_gives.0 in
    sym (option_map_id c.find.result) ∙ (found ∙ ap (find (λ k. pointwise nat_eq c.args.text.now (media_type_of k))) all)
