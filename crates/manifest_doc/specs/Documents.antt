-- Documents: the bytes that are a manifest, what they name and list, and the first test that others fail.
use Rattle.std.specs.Prelude.{◌≡◌, ℕ, Bool, true, false, not, ◌&&◌, ◌||◌, nat_eq, nat_le, if◌then◌else◌, List, length, codes, Option, Some, None, option_and_then, Result, Ok, Err}
use Rattle.std.specs.Option.{option_map_or}
use Rattle.std.specs.List.{list_any, list_all}
use Rattle.std.specs.Cmp.Lexicographic.{pointwise}
use Rattle.serde_json.specs.Data.{Data}
use Rattle.serde_json.specs.Find.{get}
use Rattle.reg_names.specs.declared.kind.Kind.{Kind}
use Rattle.reg_names.specs.declared.named.Named.{Named}
use Rattle.reg_names.specs.Named.{AscendStrictly, digests_of, free_in, has_digest}
use Rattle.manifest_doc.specs.Kinds.{object_in, kind_of_object}
use Rattle.manifest_doc.specs.Descriptors.{elements, described, is_descriptor, descriptors}
use Rattle.manifest_doc.specs.declared.descriptors.Descriptor.{Descriptor}
use Rattle.manifest_doc.specs.declared.document.Doc.{Doc}
use Rattle.manifest_doc.specs.declared.fault.DocFault.{DocFault}
use Rattle.manifest_doc.specs.declared.fault.DocFault.TheVariants.{NotJson, NoKind, BadDescriptor, TooMany}

-- ---- the tests

-- the most elements of `layers` or `manifests`
abbrev pub element_limit : ℕ
element_limit = 1024

-- neither list has more elements than it may have
abbrev pub is_small : Data → Bool
is_small d =
    nat_le (length (elements (codes "layers") d)) element_limit
    && nat_le (length (elements (codes "manifests") d)) element_limit

-- the configuration, where there is one, each layer and each listed manifest is a descriptor
abbrev pub has_descriptors : Data → Bool
has_descriptors d =
    option_map_or is_descriptor (get (codes "config") d) true
    && list_all is_descriptor (elements (codes "layers") d)
    && list_all is_descriptor (elements (codes "manifests") d)

-- the kind of an object that passes the tests, or the first that it fails
abbrev pub judged : Data → Result Kind DocFault
judged d =
    option_map_or
    (λ kind. if not (is_small d) then Err TooMany else if not (has_descriptors d) then Err BadDescriptor else Ok kind)
    (kind_of_object d) (Err NoKind)

-- the kind of a document, or the first test that the bytes fail
unfoldable pub verdict : List ℕ → Result Kind DocFault
verdict bytes = option_map_or judged (object_in bytes) (Err NotJson)

-- ---- what a document names and lists

abbrev pub config : Data → Option Descriptor
config d = option_and_then described (get (codes "config") d)

abbrev pub layers : Data → List Descriptor
layers d = descriptors (elements (codes "layers") d)

abbrev pub manifests : Data → List Descriptor
manifests d = descriptors (elements (codes "manifests") d)

-- a descriptor of this digest
abbrev pub is_of : List ℕ → Descriptor → Bool
is_of digest e = pointwise nat_eq digest e.digest

-- the configuration or a layer names the digest
abbrev pub is_named : List ℕ → Option Descriptor → List Descriptor → Bool
is_named digest config layers = option_map_or (is_of digest) config false || list_any (is_of digest) layers

-- each occurrence of the digest is a layer with URLs
abbrev pub is_free : List ℕ → Option Descriptor → List Descriptor → Bool
is_free digest config layers =
    not (option_map_or (is_of digest) config false) && list_all (λ e. not (is_of digest e) || e.has_urls) layers

-- whether a digest that is named is free
abbrev pub freedom : List ℕ → Option Descriptor → List Descriptor → Option Bool
freedom digest config layers = if is_named digest config layers then Some (is_free digest config layers) else None

-- The entries are in order, and are exactly the digests that the configuration or a layer names, each free exactly
-- where each of its occurrences is a layer with URLs.
pub record AreNamed (config : Option Descriptor) (layers : List Descriptor) (named : List Named) : Type 0 where
  pub ascending : AscendStrictly (digests_of named)
  pub exact : (digest : List ℕ) → free_in digest named ≡ freedom digest config layers

-- The digests are in order, and are exactly those of the listed manifests.
pub record AreChildren (manifests : List Descriptor) (children : List (List ℕ)) : Type 0 where
  pub ascending : AscendStrictly children
  pub exact : (digest : List ℕ) → has_digest digest children ≡ list_any (is_of digest) manifests

-- The object passes the tests, and the value tells its kind, what it names and what it lists.
pub record IsObjectDocument (d : Data) (doc : Doc) : Type 0 where
  pub kind : judged d ≡ Ok doc.kind
  pub named : AreNamed (config d) (layers d) doc.named
  pub children : AreChildren (manifests d) doc.children

-- The bytes are a document with this value.
pub record IsDocument (bytes : List ℕ) (doc : Doc) : Type 0 where
  pub object : Data
  pub is : object_in bytes ≡ Some object
  pub document : IsObjectDocument object doc
