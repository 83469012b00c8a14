-- Keys of rows are so short that two bytes count them.
use Rattle.std.proofs.Common.{◌≡◌, ℕ, ◌+◌, ◌≤◌, Bool, true, false, leb, List, [], ◌∷◌, length, length-append, ap, ◌∙◌, refl, arith, inl, inr}
use Rattle.std.specs.Prelude.{◌&&◌}
use Rattle.std.specs.List.{list_all}
use Rattle.std.proofs.lemmas.Bool.{and_parts, leb-true, false≢true}
use Rattle.reg_names.specs.Limits.{name_limit}
use Rattle.reg_names.specs.Names.{begins}
use Rattle.reg_names.specs.Tags.{is_word, is_tag_byte, IsTag}
use Rattle.keeper_api.specs.declared.field.Field.{Field}
use Rattle.keeper_api.specs.declared.field.Field.TheVariants as field
use Rattle.keeper_api.specs.Fields.{ended, Spells, AreFields}
use Rattle.keeper_api.specs.Tables.{Line, lines, HasLine, Fits}
use Rattle.import_phase.specs.declared.phase.Two.{Two}
use Rattle.import_phase.specs.declared.phase.Two.TheVariants as second
use Rattle.import_phase.specs.declared.phase.Phase.{Phase}
use Rattle.import_phase.specs.declared.phase.Phase.TheVariants as phase
use Rattle.import_phase.specs.Phases.{IsKeptTwo, IsKept, IsBoundedTwo, IsBounded}

-- ---- phases that rows keep

two_bounded : (at : Two) → IsKeptTwo at → IsBoundedTwo at
two_bounded second.FilesStart k = tt
two_bounded (second.Files path) k = tt
two_bounded second.RowsStart k = tt
two_bounded (second.Rows key) k = omega (arith, ap length k.is, k.short)

pub kept_bounded : (now : Phase) → IsKept now → IsBounded now
kept_bounded (phase.Files one) k = tt
kept_bounded (phase.Frozen two) k = two_bounded two k
kept_bounded (phase.Tables since three) k = k.1

-- ---- keys of rows

-- every field but a path and a key is short
abbrev is_short : Field → Bool
is_short field.Path = false
is_short field.Key = false
is_short _ = true

tag_short : (tag : List ℕ) → IsTag tag → length tag ≤ 128
tag_short [] h = absurd (false≢true h)
tag_short (b ∷ bs) h =
    let front = (and_parts (is_word b && leb (length bs) 127) (list_all is_tag_byte bs) h).0 in
    omega (arith, leb-true (length bs) 127 (and_parts (is_word b) (leb (length bs) 127) front).1)

ended_long : (text spelled : List ℕ) → spelled ≡ ended text → length spelled ≡ length text + 1
ended_long text spelled is = ap length is ∙ length-append text (0 ∷ [])

short : (f : Field) (x : List ℕ) → is_short f ≡ true → Spells f x → length x ≤ 256
short (field.Byte b) x y s = omega (arith, ap length s)
short field.Number x y s = omega (arith, ap length s.2)
short field.Positive x y s = omega (arith, ap length s.3)
short field.One x y s = omega (arith, ap length s)
short field.Count x y s = omega (arith, ap length s.2)
short field.EndedName x y s =
    omega (arith, ended_long s.0 x s.2, leb-true (length s.0) 255 (and_parts (leb (length s.0) name_limit) (begins s.0) s.1).0)
short field.EndedTag x y s = omega (arith, ended_long s.0 x s.2, tag_short s.0 s.1)
short field.Digest x y s = omega (arith, ap length s.is, s.long)
short field.Kind x y s = omega (arith, ap length s.1)
short field.Free x y s = omega (arith, ap length s.1)
short field.Event x y s = omega (arith, ap length s.3)
short field.Table x y s = omega (arith, ap length s.2)
short field.Path x y s = absurd (false≢true y)
short field.Key x y s = absurd (false≢true y)

-- room for so many short fields
abbrev room : List Field → ℕ
room [] = 0
room (f ∷ fs) = 256 + room fs

fields_short : (fs : List Field) (bytes : List ℕ) → list_all is_short fs ≡ true → AreFields fs bytes → length bytes ≤ room fs
fields_short [] bytes all a = omega (arith, ap length a)
fields_short (f ∷ fs) bytes all a =
    let p = and_parts (is_short f) (list_all is_short fs) all in
    omega (arith, ap length a.4 ∙ length-append a.0 a.1, short f a.0 p.0 a.2, fields_short fs a.1 p.1 a.3)

abbrev has_short_keys : Line → Bool
has_short_keys l = list_all is_short l.key && leb (room l.key) 1024

line_short : (ls : List Line) (table : ℕ) (key row : List ℕ) → list_all has_short_keys ls ≡ true → HasLine ls table key row → length key ≤ 1024
line_short [] table key row all h = absurd h
line_short (l ∷ ls) table key row all (inl f) =
    let p = and_parts (list_all is_short l.key) (leb (room l.key) 1024) (and_parts (has_short_keys l) (list_all has_short_keys ls) all).0 in
    omega (arith, fields_short l.key key p.0 f.key_fields, leb-true (room l.key) 1024 p.1)
line_short (l ∷ ls) table key row all (inr h) =
    line_short ls table key row (and_parts (has_short_keys l) (list_all has_short_keys ls) all).1 h

pub key_bounded : (key row : List ℕ) → Fits key row → IsBounded (phase.Frozen (second.Rows key))
key_bounded [] row h = absurd h
key_bounded (table ∷ key) row h = omega (arith, line_short lines table key row refl h)
