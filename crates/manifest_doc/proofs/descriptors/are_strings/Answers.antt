use Rattle.std.proofs.Common.{rules, tests, sym, ◌∙◌, ap}
use Rattle.std.proofs.lemmas.Iterator.{YieldsList-from_slice}
use Rattle.std.proofs.lemmas.Iterator.Search.{all_from_yields_List}
use Rattle.std.proofs.lemmas.List.Folds.{list_all-map}
use Rattle.std.specs.List.{list_all}
use Rattle.serde_json.specs.View.{view}
use Rattle.manifest_doc.specs.Descriptors.{is_string}
use Rattle.manifest_doc.proofs.Elements.{of_array}
use Rattle.manifest_doc.proofs.descriptors.are_strings.Goals as goal

pub returns-then-is_array : goal.returns-then-is_array
returns-then-is_array c =
    let each = all_from_yields_List (λ v. is_string (view v)) _ _ c.all.result c.all.ensures.ran (YieldsList-from_slice c.elements_of.result.now cc) (λ x b q k. search (rules, tests)) in
    of_array (view c.args.value.now) _ (sym c.is_array.ensures ∙ c.if-is_array.true) (each ∙ sym (list_all-map is_string view c.elements_of.result.now) ∙ ap (list_all is_string) c.elements_of.ensures)
