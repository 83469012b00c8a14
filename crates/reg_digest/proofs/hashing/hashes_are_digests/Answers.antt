use Rattle.std.proofs.Common.{refl}
use Rattle.sha2.proofs.Facts256.{length-sha256}
use Rattle.sha2.specs.Sha256.{sha256}
use Rattle.reg_digest.proofs.HashLaws.{AreBytes-sha256}
use Rattle.reg_digest.proofs.hashing.hashes_are_digests.Goals as goal

pub returns : goal.returns
returns c = λ bytes. record { raw = sha256 bytes; is = refl; long = length-sha256 bytes; bytes = AreBytes-sha256 bytes }
