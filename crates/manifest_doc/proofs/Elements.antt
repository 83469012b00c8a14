-- The elements of arrays.
use Rattle.std.proofs.Common.{◌≡◌, ℕ, ◌+◌, ◌<◌, Bool, true, false, List, [], ◌∷◌, ◌++◌, length, get_or, take, map, Option, Some, None, refl, sym, ap, subst, ◌∙◌}
use Rattle.std.specs.Prelude.{is_some}
use Rattle.std.specs.Option.{option_map_or}
use Rattle.std.specs.List.{list_all}
use Rattle.std.proofs.lemmas.List.{take_more, get_or-map, length-map}
use Rattle.std.proofs.lemmas.List.Folds.{list_all-append, list_all_at}
use Rattle.serde_json.specs.Data.{Data}
use Rattle.serde_json.specs.Find.{as_array}
use Rattle.serde_json.specs.View.{view, items_view}
use Rattle.serde_json.specs.declared.value.Value.{Value}
use Rattle.manifest_doc.specs.Descriptors.{listed, elements_of, is_string, are_strings, described, is_descriptor, descriptors}
use Rattle.manifest_doc.specs.declared.descriptors.Descriptor.{Descriptor}

pub listed_is : (vs : List Value) → listed (items_view vs) ≡ map view vs
listed_is [] = refl
listed_is (v ∷ vs) = ap (λ ds. view v ∷ ds) (listed_is vs)

-- whether an array has strings alone
pub of_array : (d : Data) (r : Bool) → is_some (as_array d) ≡ true → r ≡ list_all is_string (elements_of d) → r ≡ are_strings d
of_array d r here each = rw here each

after : (o : Option Descriptor) (ds es : List Descriptor) → option_map_or (λ e. e ∷ (ds ++ es)) o (ds ++ es) ≡ option_map_or (λ e. e ∷ ds) o ds ++ es
after None ds es = refl
after (Some e) ds es = refl

-- a descriptor behind others
pub descriptors-push : (ds : List Data) (d : Data) (e : Descriptor) → described d ≡ Some e → descriptors (ds ++ d ∷ []) ≡ descriptors ds ++ e ∷ []
descriptors-push [] d e is = rw is refl
descriptors-push (x ∷ xs) d e is = rw (descriptors-push xs d e is) (after (described x) (descriptors xs) (e ∷ []))

good-push : (ds : List Data) (d : Data) → list_all is_descriptor ds ≡ true → is_descriptor d ≡ true → list_all is_descriptor (ds ++ d ∷ []) ≡ true
good-push ds d all one = list_all-append is_descriptor ds (d ∷ []) ∙ rw (all, one) refl

at_index : (vs : List Value) (i : ℕ) (v : Value) → i < length vs → v ≡ get_or vs i v → get_or (map view vs) i (view v) ≡ view v
at_index vs i v within at = get_or-map view vs i v (view v) within ∙ ap view (sym at)

-- one value more was read
pub read_more : (vs : List Value) (i : ℕ) (v : Value) (found more : List Descriptor) (e : Descriptor) → i < length vs → v ≡ get_or vs i v → Some e ≡ described (view v) → (list_all is_descriptor (take i (map view vs)) ≡ true) × (found ≡ descriptors (take i (map view vs))) → more ≡ found ++ e ∷ [] → (list_all is_descriptor (take (i + 1) (map view vs)) ≡ true) × (more ≡ descriptors (take (i + 1) (map view vs)))
read_more vs i v found more e within at is before pushed =
    let ds = map view vs in
    let here : i < length ds = subst (λ n. i < n) (sym (length-map vs view)) within in
    let grown = take_more ds i (view v) here ∙ ap (λ x. take i ds ++ x ∷ []) (at_index vs i v within at) in
    (ap (list_all is_descriptor) grown ∙ good-push (take i ds) (view v) before.0 (sym (ap is_some is)), pushed ∙ ap (λ f. f ++ e ∷ []) before.1 ∙ sym (ap descriptors grown ∙ descriptors-push (take i ds) (view v) e (sym is)))

-- a value that is no descriptor
pub read_bad : (vs : List Value) (i : ℕ) (v : Value) → i < length vs → v ≡ get_or vs i v → None ≡ described (view v) → list_all is_descriptor (map view vs) ≡ false
read_bad vs i v within at is =
    list_all_at is_descriptor (map view vs) i (view v) (subst (λ n. i < n) (sym (length-map vs view)) within) (ap is_descriptor (at_index vs i v within at) ∙ sym (ap is_some is))
