-- The fields of keys and rows, and what is made of them.
use Rattle.std.specs.Prelude.{◌≡◌, ℕ, ◌^◌, ◌<◌, ◌≤◌, Bool, List, [], ◌∷◌, ◌++◌, length}
use Rattle.std.specs.Int.{w32, to_be_bytes}
use Rattle.std.specs.Str.{IsUtf8}
use Rattle.reg_names.specs.declared.kind.Kind.{Kind}
use Rattle.reg_names.specs.Digests.{AreBytes, IsDigest}
use Rattle.reg_names.specs.Names.{IsName}
use Rattle.reg_names.specs.Tags.{IsTag}
use Rattle.reg_journal.specs.Entries.{IsNumber}
use Rattle.reg_journal.specs.Spelling.{number_field, count_field, kind_field, free_field}
use Rattle.depot_api.specs.Paths.{IsPath, parts_of}
use Rattle.keeper_api.specs.declared.field.Field.{Field}
use Rattle.keeper_api.specs.declared.field.Field.TheVariants as field

-- a name or a tag in a key: its bytes and a zero byte, so that keys are ordered as the names are
abbrev pub ended : List ℕ → List ℕ
ended text = text ++ 0 ∷ []

-- bytes behind two bytes that count them
abbrev pub counted : List ℕ → List ℕ
counted bytes = count_field (length bytes) ++ bytes

-- the text of a path
pub record IsPathText (text : List ℕ) : Type 0 where
  pub utf8 : IsUtf8 text
  pub path : IsPath (parts_of text)

-- the field may be spelled so
abbrev pub Spells : Field → List ℕ → Type 0
Spells (field.Byte byte) spelled = spelled ≡ byte ∷ []
Spells field.Number spelled = (n : ℕ) × IsNumber n × (spelled ≡ number_field n)
Spells field.Positive spelled = (n : ℕ) × IsNumber n × (1 ≤ n) × (spelled ≡ number_field n)
Spells field.One spelled = spelled ≡ number_field 1
Spells field.Count spelled = (n : ℕ) × (n < 2 ^ 32) × (spelled ≡ to_be_bytes w32 n)
Spells field.EndedName spelled = (name : List ℕ) × IsName name × (spelled ≡ ended name)
Spells field.EndedTag spelled = (tag : List ℕ) × IsTag tag × (spelled ≡ ended tag)
Spells field.Digest spelled = IsDigest spelled
Spells field.Kind spelled = (kind : Kind) × (spelled ≡ kind_field kind)
Spells field.Free spelled = (free : Bool) × (spelled ≡ free_field free)
Spells field.Event spelled = (n : ℕ) × (1 ≤ n) × (n ≤ 18) × (spelled ≡ n ∷ [])
Spells field.Table spelled = (n : ℕ) × (n < 256) × (spelled ≡ n ∷ [])
Spells field.Path spelled = (text : List ℕ) × IsPathText text × (spelled ≡ counted text)
Spells field.Key spelled = (key : List ℕ) × AreBytes key × (length key < 2 ^ 16) × (spelled ≡ counted key)

-- the bytes are those of the fields, one behind the other, and no more
abbrev pub AreFields : List Field → List ℕ → Type 0
AreFields [] bytes = bytes ≡ []
AreFields (f ∷ fs) bytes =
    (front : List ℕ) × (rest : List ℕ) × Spells f front × AreFields fs rest × (bytes ≡ front ++ rest)
