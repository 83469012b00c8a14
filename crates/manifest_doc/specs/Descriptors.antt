-- Descriptors (OCI Image Specification 1.1, "Content Descriptors").
use Rattle.std.specs.Prelude.{ℕ, ◌&&◌, nat_lt, Bool, true, List, [], ◌∷◌, length, codes, if◌then◌else◌, Option, None, is_some, option_and_then}
use Rattle.std.specs.Option.{option_map, option_map_or}
use Rattle.std.specs.List.{list_all}
use Rattle.serde_json.specs.Data.{Data, Items, no_items, item}
use Rattle.serde_json.specs.Find.{get, as_array, as_str}
use Rattle.reg_names.specs.Digests.{digest_named}
use Rattle.manifest_doc.specs.Kinds.{has, number_in}
use Rattle.manifest_doc.specs.declared.descriptors.Descriptor.{Descriptor}

-- the elements of an array
abbrev pub listed : Items → List Data
listed no_items = []
listed (item d ds) = d ∷ listed ds

-- the elements of the array that a value is, and none of another value
abbrev pub elements_of : Data → List Data
elements_of d = option_map_or listed (as_array d) []

-- the elements of a member that is an array, and none where there is no such member
abbrev pub elements : List ℕ → Data → List Data
elements name d = option_map_or elements_of (get name d) []

abbrev pub is_string : Data → Bool
is_string d = is_some (as_str d)

-- an array of strings
abbrev pub are_strings : Data → Bool
are_strings d = is_some (as_array d) && list_all is_string (elements_of d)

-- a number from 0 to 2^64 - 1, spelled in digits alone
abbrev pub is_size : Data → Bool
is_size d = is_some (number_in d)

-- the members beside the digest are as they should be
abbrev pub has_fields : Data → Bool
has_fields d =
    has (codes "mediaType") is_string d && has (codes "size") is_size d
    && option_map_or are_strings (get (codes "urls") d) true

-- the digest that the member `digest` is the text of
abbrev pub digest_in : Data → Option (List ℕ)
digest_in d = option_and_then digest_named (option_and_then as_str (get (codes "digest") d))

-- the content may be fetched from elsewhere
abbrev pub has_urls : Data → Bool
has_urls d = nat_lt 0 (length (elements (codes "urls") d))

-- the descriptor that a value is
abbrev pub described : Data → Option Descriptor
described d =
    if has_fields d then option_map (λ digest. record { digest = digest; has_urls = has_urls d }) (digest_in d)
    else None

abbrev pub is_descriptor : Data → Bool
is_descriptor d = is_some (described d)

-- the descriptors among some values, in their order
abbrev pub descriptors : List Data → List Descriptor
descriptors [] = []
descriptors (d ∷ ds) = option_map_or (λ e. e ∷ descriptors ds) (described d) (descriptors ds)
