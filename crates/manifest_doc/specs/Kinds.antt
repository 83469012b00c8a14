-- Which bytes are an object, and which kind of manifest an object is (OCI Image Specification 1.1, "Image Manifest
-- Specification" and "Image Index Specification"; Docker's manifest schema 2).
use Rattle.std.specs.Prelude.{ℕ, ◌==◌, ◌&&◌, List, codes, Bool, true, false, if◌then◌else◌, Option, Some, None, is_some, is_none, option_and_then}
use Rattle.std.specs.Option.{option_map_or}
use Rattle.std.specs.Str.{is_utf8}
use Rattle.serde_json.specs.Data.{Data}
use Rattle.serde_json.specs.Read.{read}
use Rattle.serde_json.specs.Find.{get, as_object, as_array, as_str, as_number, as_u64}
use Rattle.reg_names.specs.Kinds.{kind_named}
use Rattle.reg_names.specs.declared.kind.Kind.{Kind}
use Rattle.reg_names.specs.declared.kind.Kind.TheVariants.{OciImage, OciIndex, DockerImage, DockerList}

-- ---- the object

abbrev pub is_object : Data → Bool
is_object d = is_some (as_object d)

abbrev pub is_array : Data → Bool
is_array d = is_some (as_array d)

-- the object that the bytes are as JSON (RFC 8259), nested at most 127 deep; of members with one name the last counts
unfoldable pub object_in : List ℕ → Option Data
object_in bytes =
    if is_utf8 bytes then option_and_then (λ d. if is_object d then Some d else None) (read bytes) else None

-- ---- its members

-- the member's value passes the test
abbrev pub has : List ℕ → (Data → Bool) → Data → Bool
has name test d = option_map_or test (get name d) false

-- there is no such member
abbrev pub lacks : List ℕ → Data → Bool
lacks name d = is_none (get name d)

-- the number, where it is from 0 to 2^64 - 1 and spelled in digits alone
abbrev pub number_in : Data → Option ℕ
number_in d = option_and_then as_u64 (as_number d)

abbrev pub has_version_two : Data → Bool
has_version_two = has (codes "schemaVersion") (λ v. option_map_or (λ n. n == 2) (number_in v) false)

-- ---- its kind

-- the kind of an object without a media type, by whether it has the members of an image and that of an index
abbrev pub kind_by_members : Bool → Bool → Option Kind
kind_by_members true false = Some OciImage
kind_by_members false true = Some OciIndex
kind_by_members _ _ = None

-- the kind that the media type names, and without one the kind that the other members tell
abbrev pub kind_named_by : Option Data → Data → Option Kind
kind_named_by (Some media_type) d = option_and_then kind_named (as_str media_type)
kind_named_by None d =
    kind_by_members
    (is_some (get (codes "config") d) && is_some (get (codes "layers") d)) (is_some (get (codes "manifests") d))

abbrev pub kind_told : Data → Option Kind
kind_told d = kind_named_by (get (codes "mediaType") d) d

abbrev pub is_image : Data → Bool
is_image d = has (codes "config") is_object d && has (codes "layers") is_array d && lacks (codes "manifests") d

abbrev pub is_index : Data → Bool
is_index d = has (codes "manifests") is_array d && lacks (codes "config") d && lacks (codes "layers") d

-- the object has the members of its kind and none of the other
abbrev pub has_shape : Kind → Data → Bool
has_shape OciImage = is_image
has_shape OciIndex = is_index
has_shape DockerImage = is_image
has_shape DockerList = is_index

-- the kind of an object, where it has one
abbrev pub kind_of_object : Data → Option Kind
kind_of_object d =
    if has_version_two d then option_and_then (λ kind. if has_shape kind d then Some kind else None) (kind_told d)
    else None
