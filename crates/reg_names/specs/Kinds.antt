-- Media types of manifests (OCI Image Specification 1.1, "Media Types").
use Rattle.std.specs.Prelude.{ℕ, List, Option, Some, None, codes, nat_eq, if◌then◌else◌}
use Rattle.std.specs.Cmp.Lexicographic.{pointwise}
use Rattle.reg_names.specs.declared.kind.Kind.{Kind}
use Rattle.reg_names.specs.declared.kind.Kind.TheVariants.{OciImage, OciIndex, DockerImage, DockerList}

-- the media type of a kind
abbrev pub media_type_of : Kind → List ℕ
media_type_of OciImage = codes "application/vnd.oci.image.manifest.v1+json"
media_type_of OciIndex = codes "application/vnd.oci.image.index.v1+json"
media_type_of DockerImage = codes "application/vnd.docker.distribution.manifest.v2+json"
media_type_of DockerList = codes "application/vnd.docker.distribution.manifest.list.v2+json"

-- k, where the text is its media type, and else what comes next
abbrev pub kind_or : Kind → List ℕ → Option Kind → Option Kind
kind_or k text next = if pointwise nat_eq text (media_type_of k) then Some k else next

-- the kind of a media type
abbrev pub kind_named : List ℕ → Option Kind
kind_named text =
    kind_or OciImage text (kind_or OciIndex text (kind_or DockerImage text (kind_or DockerList text None)))
