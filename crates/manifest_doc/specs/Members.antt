-- What a document names, frees and lists, told by the members of its JSON value alone.
use Rattle.std.specs.Prelude.{ℕ, Bool, false, not, ◌&&◌, ◌||◌, nat_eq, List, codes}
use Rattle.std.specs.Option.{option_map_or}
use Rattle.std.specs.List.{list_any, list_all}
use Rattle.std.specs.Cmp.Lexicographic.{pointwise}
use Rattle.serde_json.specs.Data.{Data}
use Rattle.manifest_doc.specs.Kinds.{has}
use Rattle.manifest_doc.specs.Descriptors.{elements, digest_in, has_urls}

-- the value's member `digest` is the text of this digest
abbrev pub tells_digest : List ℕ → Data → Bool
tells_digest digest d = option_map_or (pointwise nat_eq digest) (digest_in d) false

-- the member `config`, or an element of `layers`, tells the digest
abbrev pub names_digest : List ℕ → Data → Bool
names_digest digest d =
    has (codes "config") (tells_digest digest) d || list_any (tells_digest digest) (elements (codes "layers") d)

-- `config` does not tell the digest, and in each element of `layers` that tells it, `urls` has an element
abbrev pub frees_digest : List ℕ → Data → Bool
frees_digest digest d =
    not (has (codes "config") (tells_digest digest) d)
    && list_all (λ layer. not (tells_digest digest layer) || has_urls layer) (elements (codes "layers") d)

-- an element of `manifests` tells the digest
abbrev pub lists_digest : List ℕ → Data → Bool
lists_digest digest d = list_any (tells_digest digest) (elements (codes "manifests") d)
