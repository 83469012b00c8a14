-- Upload ids: sixteen bytes, written as a UUID is (RFC 9562, section 4), in lower case.
use Rattle.std.specs.Prelude.{◌≡◌, ℕ, ◌+◌, ◌*◌, ◌%◌, ◌++◌, nat_eq, if◌then◌else◌, List, length, take, drop, slice_index, slice_set, codes, Option, Some, None}
use Rattle.std.specs.Cmp.Lexicographic.{pointwise}
use Rattle.hex.specs.Hex.{encode_lower}
use Rattle.uuid.specs.Text.{parsed_hyphenated}
use Rattle.reg_names.specs.Digests.{AreBytes}

-- an id: any sixteen bytes
pub record IsUploadId (id : List ℕ) : Type 0 where
  pub long : length id ≡ 16
  pub bytes : AreBytes id

-- its text: 8-4-4-4-12 lower-case hexadecimal digits
abbrev pub upload_id_text : List ℕ → List ℕ
upload_id_text id =
    encode_lower (take 4 id) ++ (codes "-"
    ++ (encode_lower (take 2 (drop 4 id)) ++ (codes "-"
    ++ (encode_lower (take 2 (drop 6 id)) ++ (codes "-"
    ++ (encode_lower (take 2 (drop 8 id)) ++ (codes "-"
    ++ encode_lower (drop 10 id))))))))

-- the id of a UUID's bytes, where the text is that id's
abbrev pub upload_id_spelled : List ℕ → Option (List ℕ) → Option (List ℕ)
upload_id_spelled text (Some id) = if pointwise nat_eq text (upload_id_text id) then Some id else None
upload_id_spelled text None = None

-- the id whose text this is
unfoldable pub upload_id_named : List ℕ → Option (List ℕ)
upload_id_named text = upload_id_spelled text (parsed_hyphenated text)

-- these bytes with version 4 in the high half of byte 6 and variant 10 in the high bits of byte 8 (RFC 9562, 5.4)
abbrev pub version_4 : List ℕ → List ℕ
version_4 bytes =
    slice_set (slice_set bytes 6 (4 * 16 + slice_index bytes 6 % 16)) 8 (2 * 64 + slice_index bytes 8 % 64)
