use Rattle.std.proofs.Common.{lit≤, codes, refl}
use Rattle.link_paths.proofs.Parts.{literal}
use Rattle.link_paths.proofs.PlaceParts.{upload_spelled, IsTail-spelled}
use Rattle.link_paths.proofs.paths.upload_data_path.Goals as goal

pub in_repository-requires-clause-inside : goal.in_repository-requires-clause-inside
in_repository-requires-clause-inside c =
    rw (c.deref.ensures, c.in_ok-format.ensures.ok, c.as_str-id.ensures.bytes, c.in_ok-id.ensures.text)
    (IsTail-spelled (upload_spelled c.args.id.now c.id_text.ensures.id (literal 4 (codes "data") refl refl)) (lit≤ tt))
