-- The document that is computed of bytes is the one that they are.
use Rattle.std.proofs.Common.{◌≡◌, ℕ, List, [], ◌∷◌, map, nat_eq, Bool, true, false, cond, Option, Some, None, Result, Ok, Err, refl, sym, ap, subst, ◌∙◌}
use Rattle.std.specs.Prelude.{◌↔◌, ◌||◌, option_and_then, option_map}
use Rattle.std.specs.Option.{option_map_or}
use Rattle.std.specs.Result.{result_ok}
use Rattle.std.specs.List.{AllByRecursion, list_any}
use Rattle.std.specs.List.Sorted.{IsStrictlySortedBy}
use Rattle.std.specs.declared.cmp.Ordering.{Ordering}
use Rattle.std.specs.declared.cmp.Ordering.TheVariants.{Less, Equal, Greater}
use Rattle.std.specs.Ordering.{nat_cmp, is_eq, ordering_reverse}
use Rattle.std.specs.Cmp.Lexicographic.{pointwise, slice_cmp, same_text, texts_ties, nat_list_cmp_total}
use Rattle.std.proofs.lemmas.Map.Keys.{sorted_head, sorted_tail}
use Rattle.serde_json.specs.Data.{Data}
use Rattle.reg_names.specs.declared.kind.Kind.{Kind}
use Rattle.reg_names.specs.declared.named.Named.{Named}
use Rattle.reg_names.specs.Named.{AscendStrictly, digests_of, free_in, has_digest}
use Rattle.manifest_doc.specs.declared.document.Doc.{Doc}
use Rattle.manifest_doc.specs.declared.fault.DocFault.{DocFault}
use Rattle.manifest_doc.specs.declared.fault.DocFault.TheVariants.{NotJson}
use Rattle.manifest_doc.specs.declared.descriptors.Descriptor.{Descriptor}
use Rattle.manifest_doc.specs.Kinds.{object_in}
use Rattle.manifest_doc.specs.Documents.{judged, verdict, config, layers, manifests, is_of, is_named, is_free, AreNamed, AreChildren, IsObjectDocument, IsDocument}
use Rattle.manifest_doc.specs.OneDocument.{put_by, with_digest, in_order, digests_in, occurring, named_in, document_by, document_of, document_in}
use Rattle.manifest_doc.proofs.DocumentLaws.{one_document, passes}

-- ---- lists in order

abbrev order : List ℕ → List ℕ → Ordering
order = slice_cmp nat_cmp

-- all of them are above k
abbrev Above : List ℕ → List (List ℕ) → Type 0
Above k ds = AllByRecursion (λ d. order k d ≡ Less) ds

above_more : (k l : List ℕ) (ds : List (List ℕ)) → order k l ≡ Less → Above l ds → Above k ds
above_more k l [] less all = tt
above_more k l (d ∷ ds) less all = (nat_list_cmp_total.trans k l d less all.0, above_more k l ds less all.1)

above_put : (o : Ordering) (k digest first : List ℕ) (rest put : List (List ℕ)) → order k digest ≡ Less → order k first ≡ Less → Above k rest → Above k put → Above k (put_by o digest first rest put)
above_put Less k digest first rest put a b c d = (a, (b, c))
above_put Equal k digest first rest put a b c d = (b, c)
above_put Greater k digest first rest put a b c d = (b, d)

above_with : (k digest : List ℕ) (ds : List (List ℕ)) → order k digest ≡ Less → Above k ds → Above k (with_digest digest ds)
above_with k digest [] less all = (less, tt)
above_with k digest (d ∷ ds) less all = above_put (order digest d) k digest d ds (with_digest digest ds) less all.0 all.1 (above_with k digest ds less all.1)

sorted_put : (o : Ordering) (digest first : List ℕ) (rest put : List (List ℕ)) → order digest first ≡ o → AscendStrictly (first ∷ rest) → (order first digest ≡ Less → Above first put) → AscendStrictly put → AscendStrictly (put_by o digest first rest put)
unfolding IsStrictlySortedBy
sorted_put Less digest first rest put is up above more = ((is, above_more digest first rest is up.0), up)
sorted_put Equal digest first rest put is up above more = up
sorted_put Greater digest first rest put is up above more =
    (above (nat_list_cmp_total.antisymm first digest ∙ ap ordering_reverse is), more)

single : (digest : List ℕ) → AscendStrictly (digest ∷ [])
unfolding IsStrictlySortedBy
single digest = (tt, tt)

ascends_nil : AscendStrictly []
unfolding IsStrictlySortedBy
ascends_nil = tt

sorted_with : (digest : List ℕ) (ds : List (List ℕ)) → AscendStrictly ds → AscendStrictly (with_digest digest ds)
sorted_with digest [] up = single digest
sorted_with digest (d ∷ ds) up =
    sorted_put (order digest d) digest d ds (with_digest digest ds) refl up (λ less. above_with d digest ds less (sorted_head order d ds up)) (sorted_with digest ds (sorted_tail order d ds up))

sorted : (ds : List (List ℕ)) → AscendStrictly (in_order ds)
sorted [] = ascends_nil
sorted (d ∷ ds) = sorted_with d (in_order ds) (sorted ds)

twice : (t r : Bool) → (t || r) ≡ (t || (t || r))
twice true r = refl
twice false r = refl

turned : (s t r : Bool) → (s || (t || r)) ≡ (t || (s || r))
turned true true r = refl
turned true false r = refl
turned false t r = refl

has_put : (o : Ordering) (q digest first : List ℕ) (rest put : List (List ℕ)) → order digest first ≡ o → has_digest q put ≡ (pointwise nat_eq q digest || has_digest q rest) → has_digest q (put_by o digest first rest put) ≡ (pointwise nat_eq q digest || has_digest q (first ∷ rest))
has_put Less q digest first rest put is more = refl
has_put Equal q digest first rest put is more =
    let one = same_text digest first (sym (texts_ties digest first ∙ ap is_eq is)) in
    twice (pointwise nat_eq q first) (has_digest q rest) ∙ ap (λ d. pointwise nat_eq q d || has_digest q (first ∷ rest)) (sym one)
has_put Greater q digest first rest put is more =
    ap (λ b. pointwise nat_eq q first || b) more ∙ turned (pointwise nat_eq q first) (pointwise nat_eq q digest) (has_digest q rest)

has_with : (q digest : List ℕ) (ds : List (List ℕ)) → has_digest q (with_digest digest ds) ≡ (pointwise nat_eq q digest || has_digest q ds)
has_with q digest [] = refl
has_with q digest (d ∷ ds) = has_put (order digest d) q digest d ds (with_digest digest ds) refl (has_with q digest ds)

has_in_order : (q : List ℕ) (ds : List (List ℕ)) → has_digest q (in_order ds) ≡ has_digest q ds
has_in_order q [] = refl
has_in_order q (d ∷ ds) = has_with q d (in_order ds) ∙ ap (λ b. pointwise nat_eq q d || b) (has_in_order q ds)

-- ---- what is named and listed

has_described : (q : List ℕ) (es : List Descriptor) → has_digest q (digests_in es) ≡ list_any (is_of q) es
has_described q [] = refl
has_described q (e ∷ es) = ap (λ b. pointwise nat_eq q e.digest || b) (has_described q es)

has_occurring : (q : List ℕ) (config : Option Descriptor) (es : List Descriptor) → has_digest q (occurring config es) ≡ is_named q config es
has_occurring q None es = has_described q es
has_occurring q (Some e) es = ap (λ b. pointwise nat_eq q e.digest || b) (has_described q es)

abbrev entries : (List ℕ → Bool) → List (List ℕ) → List Named
entries free ds = map (λ d. record { digest = d; free = free d }) ds

digests_of-entries : (free : List ℕ → Bool) (ds : List (List ℕ)) → digests_of (entries free ds) ≡ ds
digests_of-entries free [] = refl
digests_of-entries free (d ∷ ds) = ap (λ rest. d ∷ rest) (digests_of-entries free ds)

free_at : (t : Bool) (free : List ℕ → Bool) (q d : List ℕ) (more : Option Bool) (has : Bool) → pointwise nat_eq q d ≡ t → more ≡ cond has (Some (free q)) None → cond t (Some (free d)) more ≡ cond (t || has) (Some (free q)) None
free_at true free q d more has is h = ap (λ k. Some (free k)) (sym (same_text q d (sym is)))
free_at false free q d more has is h = h

free_in-entries : (free : List ℕ → Bool) (q : List ℕ) (ds : List (List ℕ)) → free_in q (entries free ds) ≡ cond (has_digest q ds) (Some (free q)) None
free_in-entries free q [] = refl
free_in-entries free q (d ∷ ds) = free_at (pointwise nat_eq q d) free q d _ (has_digest q ds) refl (free_in-entries free q ds)

named_are : (config : Option Descriptor) (es : List Descriptor) → AreNamed config es (named_in config es)
named_are config es =
    let free = λ (q : List ℕ). is_free q config es in
    record {
      ascending = subst AscendStrictly (sym (digests_of-entries free (in_order (occurring config es)))) (sorted (occurring config es));
      exact = λ q. free_in-entries free q (in_order (occurring config es)) ∙ ap (λ b. cond b (Some (free q)) None) (has_in_order q (occurring config es) ∙ has_occurring q config es);
    }

children_are : (es : List Descriptor) → AreChildren es (in_order (digests_in es))
children_are es = record {
  ascending = sorted (digests_in es);
  exact = λ q. has_in_order q (digests_in es) ∙ has_described q es;
}

-- ---- the document

pub doc_is : (d : Data) (kind : Kind) → judged d ≡ Ok kind → IsObjectDocument d (document_by d kind)
doc_is d kind is = record { kind = is; named = named_are (config d) (layers d); children = children_are (manifests d) }

from_verdict : (r : Result Kind DocFault) (d : Data) (doc : Doc) → judged d ≡ r → option_map (document_by d) (result_ok r) ≡ Some doc → IsObjectDocument d doc
from_verdict (Ok kind) d doc is e =
    let same : document_by d kind ≡ doc = cc e in
    subst (IsObjectDocument d) same (doc_is d kind is)
from_verdict (Err fault) d doc is e = absurd (cc e)

from_object : (o : Option Data) (bytes : List ℕ) (doc : Doc) → object_in bytes ≡ o → option_and_then document_of o ≡ Some doc → IsDocument bytes doc
from_object None bytes doc is e = absurd (cc e)
from_object (Some d) bytes doc is e = record { object = d; is = is; document = from_verdict (judged d) d doc refl e }

from_computed : (bytes : List ℕ) (doc : Doc) → document_in bytes ≡ Some doc → IsDocument bytes doc
unfolding document_in
from_computed bytes doc e = from_object (object_in bytes) bytes doc refl e

of_object : (bytes : List ℕ) (doc : Doc) (h : IsDocument bytes doc) → document_in bytes ≡ Some (document_by h.object doc.kind)
unfolding document_in
of_object bytes doc h = ap (option_and_then document_of) h.is ∙ ap (λ r. option_map (document_by h.object) (result_ok r)) h.document.kind

-- a document is what is computed of its bytes
pub computes : (bytes : List ℕ) (doc : Doc) → IsDocument bytes doc → document_in bytes ≡ Some doc
computes bytes doc h =
    let found = of_object bytes doc h in
    found ∙ ap Some (one_document bytes (document_by h.object doc.kind) doc (from_computed bytes (document_by h.object doc.kind) found) h)

pub computed : (bytes : List ℕ) (doc : Doc) → (document_in bytes ≡ Some doc) ↔ IsDocument bytes doc
computed bytes doc = (from_computed bytes doc, computes bytes doc)

-- bytes that pass the tests are a document
pub has_document : (bytes : List ℕ) (kind : Kind) → verdict bytes ≡ Ok kind → (doc : Doc) × IsDocument bytes doc
unfolding verdict
has_document bytes kind passed = at_found (object_in bytes) refl passed where
  at_found : (o : Option Data) → object_in bytes ≡ o → option_map_or judged o (Err NotJson) ≡ Ok kind → (doc : Doc) × IsDocument bytes doc
  at_found None is e = absurd (cc e)
  at_found (Some d) is e = (document_by d kind, record { object = d; is = is; document = doc_is d kind e })

-- nothing is computed of bytes that fail a test
pub not_computed : (bytes : List ℕ) (fault : DocFault) → verdict bytes ≡ Err fault → document_in bytes ≡ None
not_computed bytes fault fails = at_found (document_in bytes) refl where
  at_found : (o : Option Doc) → document_in bytes ≡ o → o ≡ None
  at_found None e = refl
  at_found (Some doc) e = absurd (cc (sym fails ∙ passes bytes doc (from_computed bytes doc e)))
