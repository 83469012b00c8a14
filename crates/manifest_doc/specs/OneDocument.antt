-- The document that bytes are, computed: its lists are the digests that occur, put in order without repeats.
use Rattle.std.specs.Prelude.{ℕ, List, [], ◌∷◌, map, Option, option_and_then, option_map}
use Rattle.std.specs.Option.{option_map_or}
use Rattle.std.specs.Result.{result_ok}
use Rattle.std.specs.declared.cmp.Ordering.{Ordering}
use Rattle.std.specs.declared.cmp.Ordering.TheVariants.{Less, Equal, Greater}
use Rattle.std.specs.Ordering.{nat_cmp}
use Rattle.std.specs.Cmp.Lexicographic.{slice_cmp}
use Rattle.serde_json.specs.Data.{Data}
use Rattle.reg_names.specs.declared.kind.Kind.{Kind}
use Rattle.reg_names.specs.declared.named.Named.{Named}
use Rattle.manifest_doc.specs.Kinds.{object_in}
use Rattle.manifest_doc.specs.Documents.{judged, config, layers, manifests, is_free}
use Rattle.manifest_doc.specs.declared.descriptors.Descriptor.{Descriptor}
use Rattle.manifest_doc.specs.declared.document.Doc.{Doc}

-- the digest before, at or behind the first of a list, by their order
abbrev pub put_by : Ordering → List ℕ → List ℕ → List (List ℕ) → List (List ℕ) → List (List ℕ)
put_by Less digest first rest put = digest ∷ first ∷ rest
put_by Equal digest first rest put = first ∷ rest
put_by Greater digest first rest put = first ∷ put

-- the list in order, with one digest more
abbrev pub with_digest : List ℕ → List (List ℕ) → List (List ℕ)
with_digest digest [] = digest ∷ []
with_digest digest (first ∷ rest) = put_by (slice_cmp nat_cmp digest first) digest first rest (with_digest digest rest)

-- digests in order, each once
abbrev pub in_order : List (List ℕ) → List (List ℕ)
in_order [] = []
in_order (digest ∷ digests) = with_digest digest (in_order digests)

-- the digests of descriptors
abbrev pub digests_in : List Descriptor → List (List ℕ)
digests_in descriptors = map (λ e. e.digest) descriptors

-- the digests of the configuration and of the layers
abbrev pub occurring : Option Descriptor → List Descriptor → List (List ℕ)
occurring config layers = option_map_or (λ e. e.digest ∷ digests_in layers) config (digests_in layers)

-- what the configuration and the layers name, each digest with whether it is free
abbrev pub named_in : Option Descriptor → List Descriptor → List Named
named_in config layers =
    map (λ digest. record { digest = digest; free = is_free digest config layers }) (in_order (occurring config layers))

-- the document that an object of this kind is
abbrev pub document_by : Data → Kind → Doc
document_by d kind =
    record { kind = kind; named = named_in (config d) (layers d); children = in_order (digests_in (manifests d)) }

-- the document that an object is, where it passes the tests
abbrev pub document_of : Data → Option Doc
document_of d = option_map (document_by d) (result_ok (judged d))

-- the document that bytes are
unfoldable pub document_in : List ℕ → Option Doc
document_in bytes = option_and_then document_of (object_in bytes)
