-- References: a tag or a digest (OCI Distribution Specification 1.1, "Pulling manifests").
use Rattle.std.specs.Prelude.{ℕ, if◌then◌else◌, List, Option, Some, option_map}
use Rattle.reg_names.specs.Tags.{is_tag, IsTag}
use Rattle.reg_names.specs.Digests.{IsDigest, digest_text, digest_named}
use Rattle.reg_names.specs.declared.reference.Reference.{Reference}
use Rattle.reg_names.specs.declared.reference.Reference.TheVariants.{Tag, Digest}

-- what it holds is a tag, or a digest
abbrev pub IsReference : Reference → Type 0
IsReference (Tag tag) = IsTag tag
IsReference (Digest digest) = IsDigest digest

abbrev pub reference_text : Reference → List ℕ
reference_text (Tag tag) = tag
reference_text (Digest digest) = digest_text digest

-- the reference whose text this is
abbrev pub reference_named : List ℕ → Option Reference
reference_named text = if is_tag text then Some (Tag text) else option_map Digest (digest_named text)
