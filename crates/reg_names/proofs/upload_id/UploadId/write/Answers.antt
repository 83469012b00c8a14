use Rattle.std.proofs.Common.{ap, ◌∙◌}
use Rattle.uuid.specs.Text.{hyphenated_text, lower}
use Rattle.reg_names.proofs.UploadIdTexts.{hyphenated-is}
use Rattle.reg_names.proofs.upload_id.UploadId.write.Goals as goal

pub returns : goal.returns
returns c =
    let written = ap (hyphenated_text lower) (c.hyphenated.ensures ∙ c.from_bytes.ensures) ∙ hyphenated-is c.self.inside.raw c.self.invariant in
    cc (c.encode_lower.ensures.text, written, c.self.view_is)
