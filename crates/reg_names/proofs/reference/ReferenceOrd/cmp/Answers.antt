use Rattle.std.proofs.Common.{◌≡◌, ◌∙◌}
use Rattle.std.specs.Ordering.{nat_cmp}
use Rattle.std.specs.Cmp.Lexicographic.{slice_cmp}
use Rattle.reg_names.proofs.TextOrder.{raws-cmp, digests-cmp, tag-digest-cmp, digest-tag-cmp}
use Rattle.reg_names.proofs.reference.ReferenceOrd.cmp.Goals as goal

pub returns-in-Tag-Digest : goal.returns-in-Tag-Digest
returns-in-Tag-Digest c =
    let order = tag-digest-cmp c.in-Tag-Digest.tag c.in-Tag-Digest.digest c.as_str.ensures.tag c.front.ensures.digest in
    rw (c.in-Tag-Digest.is-0, c.in-Tag-Digest.is-1) (c.cmp-in-Tag-Digest.ensures ∙ rw (c.as_str.ensures.bytes, c.front.ensures.text) order)

pub returns-in-Digest-Tag : goal.returns-in-Digest-Tag
returns-in-Digest-Tag c =
    let order = digest-tag-cmp c.in-Digest-Tag.tag c.in-Digest-Tag.digest c.as_str-in-Digest-Tag.ensures.tag c.front-in-Digest-Tag.ensures.digest in
    rw (c.in-Digest-Tag.is-0, c.in-Digest-Tag.is-1) (c.cmp-in-Digest-Tag.ensures ∙ rw (c.as_str-in-Digest-Tag.ensures.bytes, c.front-in-Digest-Tag.ensures.text) order)

pub returns-in-Digest-Digest : goal.returns-in-Digest-Digest
returns-in-Digest-Digest c =
    let raw : slice_cmp nat_cmp c.raw.result.now c.raw-in-Digest-Digest.result.now ≡ slice_cmp nat_cmp c.in-Digest-Digest.digest c.in-Digest-Digest.other =
    rw (c.raw.ensures.raw, c.raw-in-Digest-Digest.ensures.raw) (raws-cmp c.in-Digest-Digest.digest c.in-Digest-Digest.other c.raw.ensures.digest c.raw-in-Digest-Digest.ensures.digest) in
    let order = digests-cmp c.in-Digest-Digest.digest c.in-Digest-Digest.other c.raw.ensures.digest c.raw-in-Digest-Digest.ensures.digest in
    rw (c.in-Digest-Digest.is-0, c.in-Digest-Digest.is-1) (c.cmp-in-Digest-Digest.ensures ∙ raw ∙ order)
