-- What spells a phase may stand at the phase row's key, and what may stand there spells one.
use Rattle.std.proofs.Common.{◌≡◌, ℕ, true, ltb, List, [], ◌∷◌, ◌++◌, append-nil, drop, refl, sym, ap, subst, ◌∙◌, arith, inl, inr}
use Rattle.std.specs.Prelude.{◌⊎◌, slice_index}
use Rattle.std.specs.List.{list_all}
use Rattle.std.specs.Str.{IsUtf8}
use Rattle.std.proofs.lemmas.Bool.{and_parts, ltb-true}
use Rattle.std.proofs.lemmas.List.Splits.{join_with_byte-slice_split}
use Rattle.reg_journal.specs.Spelling.{number_field}
use Rattle.depot_api.specs.Paths.{IsPath, parts_of, path_text}
use Rattle.depot_api.proofs.PathLaws.{parts_of-path_text}
use Rattle.keeper_api.specs.declared.field.Field.{Field}
use Rattle.keeper_api.specs.declared.field.Field.TheVariants as field
use Rattle.keeper_api.specs.Fields.{counted, Spells, AreFields}
use Rattle.keeper_api.specs.Tables.{phases, IsOneOf, Line, lines, HasLine, Fits}
use Rattle.import_phase.specs.declared.phase.Cursor.{Cursor}
use Rattle.import_phase.specs.declared.phase.Cursor.TheVariants as cursor
use Rattle.import_phase.specs.declared.phase.Two.{Two}
use Rattle.import_phase.specs.declared.phase.Two.TheVariants as second
use Rattle.import_phase.specs.declared.phase.Phase.{Phase}
use Rattle.import_phase.specs.declared.phase.Phase.TheVariants as phase
use Rattle.import_phase.specs.Phases.{path_field, key_field, cursor_spelled, two_spelled, phase_spelled, phase_key, IsKeptPath, IsKeptKey, IsKeptCursor, IsKeptTwo, IsKept}
use Rattle.import_phase.specs.InnerForms.{IsSpelling}

-- ---- lists of fields

-- a field in front of each of these
abbrev before : Field → List (List Field) → List (List Field)
before f [] = []
before f (fs ∷ lists) = (f ∷ fs) ∷ before f lists

behind : (f : Field) (x : List ℕ) → Spells f x → (lists : List (List Field)) (rest : List ℕ) → IsOneOf lists rest → IsOneOf (before f lists) (x ++ rest)
behind f x s [] rest h = absurd h
behind f x s (fs ∷ lists) rest (inl a) = inl (x, rest, s, a, refl)
behind f x s (fs ∷ lists) rest (inr h) = inr (behind f x s lists rest h)

record Front (f : Field) (lists : List (List Field)) (row : List ℕ) : Type 0 where
  front : List ℕ
  rest : List ℕ
  spells : Spells f front
  others : IsOneOf lists rest
  parts : row ≡ front ++ rest

front_of : (f : Field) (lists : List (List Field)) (row : List ℕ) → IsOneOf (before f lists) row → Front f lists row
front_of f [] row h = absurd h
front_of f (fs ∷ lists) row (inl a) = record { front = a.0; rest = a.1; spells = a.2; others = inl a.3; parts = a.4 }
front_of f (fs ∷ lists) row (inr h) =
    let l = front_of f lists row h in
    record { front = l.front; rest = l.rest; spells = l.spells; others = inr l.others; parts = l.parts }

left : (a b : List (List Field)) (row : List ℕ) → IsOneOf a row → IsOneOf (a ++ b) row
left [] b row h = absurd h
left (fs ∷ a) b row (inl h) = inl h
left (fs ∷ a) b row (inr h) = inr (left a b row h)

right : (a b : List (List Field)) (row : List ℕ) → IsOneOf b row → IsOneOf (a ++ b) row
right [] b row h = h
right (fs ∷ a) b row h = inr (right a b row h)

either_of : (a b : List (List Field)) (row : List ℕ) → IsOneOf (a ++ b) row → IsOneOf a row ⊎ IsOneOf b row
either_of [] b row h = inr h
either_of (fs ∷ a) b row (inl h) = inl (inl h)
either_of (fs ∷ a) b row (inr h) = elim (either_of a b row h) [ inl y ↦ inl (inr y) | inr n ↦ inr n ]

-- ---- one field

alone : (b : ℕ) → AreFields (field.Byte b ∷ []) (b ∷ [])
alone b = (b ∷ [], [], refl, refl, refl)

last : (f : Field) (x : List ℕ) → Spells f x → AreFields (f ∷ []) x
last f x s = (x, [], s, refl, sym (append-nil x))

whole : (f : Field) (bytes : List ℕ) (a : AreFields (f ∷ []) bytes) → bytes ≡ a.0
whole f bytes a = a.4 ∙ ap (λ (t : List ℕ). a.0 ++ t) a.3 ∙ append-nil a.0

only : (b : ℕ) (bytes : List ℕ) → AreFields (field.Byte b ∷ []) bytes → bytes ≡ b ∷ []
only b bytes a = whole (field.Byte b) bytes a ∙ a.2

tagged : (b : ℕ) (row front rest spelled : List ℕ) → row ≡ front ++ rest → front ≡ b ∷ [] → rest ≡ spelled → row ≡ b ∷ spelled
tagged b row front rest spelled parts one is =
    parts ∙ ap (λ (t : List ℕ). t ++ rest) one ∙ ap (λ (t : List ℕ). b ∷ t) is

-- ---- paths and keys

path_spells : (path : List (List ℕ)) → IsKeptPath path → Spells field.Path (path_field path)
path_spells path k =
    (path_text path, record { utf8 = k.utf8; path = subst IsPath (sym (parts_of-path_text path k.parts)) k.parts }, refl)

path_back : (bytes : List ℕ) → AreFields (field.Path ∷ []) bytes → IsSpelling path_field IsKeptPath bytes
path_back bytes a =
    let text = a.2.0 in
    let is : text ≡ path_text (parts_of text) = sym (join_with_byte-slice_split 47 text) in
    record { of = parts_of text; such = record { parts = a.2.1.path; utf8 = subst IsUtf8 is a.2.1.utf8 }; same = whole field.Path bytes a ∙ a.2.2 ∙ ap counted is }

key_form : (key : List ℕ) → IsKeptKey key → AreFields (field.Table ∷ field.Key ∷ []) (key_field key)
key_form key k =
    subst (λ (t : List ℕ). AreFields (field.Table ∷ field.Key ∷ []) (key_field t)) (sym k.is)
    (k.table ∷ [], counted k.bytes, (k.table, k.byte, refl), last field.Key (counted k.bytes) (k.bytes, k.are, k.short, refl), refl)

key_back : (bytes : List ℕ) → AreFields (field.Table ∷ field.Key ∷ []) bytes → IsSpelling key_field IsKeptKey bytes
key_back bytes a =
    let n = a.2.0 in
    let b = a.3 in
    let key = b.2.0 in
    record { of = n ∷ key; such = record { table = n; bytes = key; is = refl; byte = a.2.1; are = b.2.1; short = b.2.2 }; same = tagged n bytes a.0 a.1 (counted key) a.4 a.2.2 (whole field.Key a.1 b ∙ b.2.3) }

-- ---- cursors

abbrev cursors : List (List Field)
cursors = (field.Byte 0 ∷ []) ∷ (field.Byte 1 ∷ field.Path ∷ []) ∷ (field.Byte 2 ∷ []) ∷ []

abbrev twos : List (List Field)
twos =
    (field.Byte 0 ∷ []) ∷ (field.Byte 1 ∷ field.Path ∷ []) ∷ (field.Byte 2 ∷ []) ∷ (field.Byte 3 ∷ field.Table ∷ field.Key ∷ []) ∷ []

path_form : (path : List (List ℕ)) → IsKeptPath path → AreFields (field.Byte 1 ∷ field.Path ∷ []) (1 ∷ path_field path)
path_form path k = (1 ∷ [], path_field path, refl, last field.Path (path_field path) (path_spells path k), refl)

cursor_form : (at : Cursor) → IsKeptCursor at → IsOneOf cursors (cursor_spelled at)
cursor_form cursor.Start k = inl (alone 0)
cursor_form (cursor.At path) k = inr (inl (path_form path k))
cursor_form cursor.Done k = inr (inr (inl (alone 2)))

two_form : (at : Two) → IsKeptTwo at → IsOneOf twos (two_spelled at)
two_form second.FilesStart k = inl (alone 0)
two_form (second.Files path) k = inr (inl (path_form path k))
two_form second.RowsStart k = inr (inr (inl (alone 2)))
two_form (second.Rows key) k = inr (inr (inr (inl (3 ∷ [], key_field key, refl, key_form key k, refl))))

cursor_back : (bytes : List ℕ) → IsOneOf cursors bytes → IsSpelling cursor_spelled IsKeptCursor bytes
cursor_back bytes (inl a) = record { of = cursor.Start; such = tt; same = only 0 bytes a }
cursor_back bytes (inr (inl a)) =
    let p = path_back a.1 a.3 in
    record { of = cursor.At p.of; such = p.such; same = tagged 1 bytes a.0 a.1 (path_field p.of) a.4 a.2 p.same }
cursor_back bytes (inr (inr (inl a))) = record { of = cursor.Done; such = tt; same = only 2 bytes a }
cursor_back bytes (inr (inr (inr e))) = absurd e

two_back : (bytes : List ℕ) → IsOneOf twos bytes → IsSpelling two_spelled IsKeptTwo bytes
two_back bytes (inl a) = record { of = second.FilesStart; such = tt; same = only 0 bytes a }
two_back bytes (inr (inl a)) =
    let p = path_back a.1 a.3 in
    record { of = second.Files p.of; such = p.such; same = tagged 1 bytes a.0 a.1 (path_field p.of) a.4 a.2 p.same }
two_back bytes (inr (inr (inl a))) = record { of = second.RowsStart; such = tt; same = only 2 bytes a }
two_back bytes (inr (inr (inr (inl a)))) =
    let k = key_back a.1 a.3 in
    record { of = second.Rows k.of; such = k.such; same = tagged 3 bytes a.0 a.1 (key_field k.of) a.4 a.2 k.same }
two_back bytes (inr (inr (inr (inr e)))) = absurd e

-- ---- phases

abbrev ones : List (List Field)
ones = before (field.Byte 1) cursors

abbrev middle : List (List Field)
middle = before (field.Byte 2) twos

abbrev threes : List (List Field)
threes = before (field.Byte 3) (before field.Positive cursors)

phase_form : (now : Phase) → IsKept now → IsOneOf (ones ++ (middle ++ threes)) (phase_spelled now)
phase_form (phase.Files one) k =
    left ones (middle ++ threes) (1 ∷ cursor_spelled one) (behind (field.Byte 1) (1 ∷ []) refl cursors (cursor_spelled one) (cursor_form one k))
phase_form (phase.Frozen two) k =
    right ones (middle ++ threes) (2 ∷ two_spelled two)
    (left middle threes (2 ∷ two_spelled two) (behind (field.Byte 2) (2 ∷ []) refl twos (two_spelled two) (two_form two k)))
phase_form (phase.Tables since three) k =
    let rest = number_field since ++ cursor_spelled three in
    right ones (middle ++ threes) (3 ∷ rest)
    (right middle threes (3 ∷ rest)
    (behind (field.Byte 3) (3 ∷ []) refl (before field.Positive cursors) rest
    (behind field.Positive (number_field since) (since, k.0, k.1, refl) cursors (cursor_spelled three) (cursor_form three k.2))))

files_back : (row : List ℕ) → Front (field.Byte 1) cursors row → IsSpelling phase_spelled IsKept row
files_back row f =
    let c = cursor_back f.rest f.others in
    record { of = phase.Files c.of; such = c.such; same = tagged 1 row f.front f.rest (cursor_spelled c.of) f.parts f.spells c.same }

frozen_back : (row : List ℕ) → Front (field.Byte 2) twos row → IsSpelling phase_spelled IsKept row
frozen_back row f =
    let t = two_back f.rest f.others in
    record { of = phase.Frozen t.of; such = t.such; same = tagged 2 row f.front f.rest (two_spelled t.of) f.parts f.spells t.same }

tables_back : (row : List ℕ) → Front (field.Byte 3) (before field.Positive cursors) row → IsSpelling phase_spelled IsKept row
tables_back row f =
    let n = front_of field.Positive cursors f.rest f.others in
    let c = cursor_back n.rest n.others in
    let since = n.spells.0 in
    let rest : f.rest ≡ number_field since ++ cursor_spelled c.of = n.parts ∙ ap (λ (t : List ℕ). t ++ n.rest) n.spells.3 ∙ ap (λ (t : List ℕ). number_field since ++ t) c.same in
    record { of = phase.Tables since c.of; such = (n.spells.1, n.spells.2, c.such); same = tagged 3 row f.front f.rest (number_field since ++ cursor_spelled c.of) f.parts f.spells rest }

phase_back : (row : List ℕ) → IsOneOf (ones ++ (middle ++ threes)) row → IsSpelling phase_spelled IsKept row
phase_back row h =
    elim (either_of ones (middle ++ threes) row h) [
      | inl y ↦ files_back row (front_of (field.Byte 1) cursors row y)
      | inr n ↦ elim (either_of middle threes row n) [
        | inl y ↦ frozen_back row (front_of (field.Byte 2) twos row y)
        | inr m ↦ tables_back row (front_of (field.Byte 3) (before field.Positive cursors) row m)
      ]
    ]

-- ---- the row

pub kept_fits : (now : Phase) → IsKept now → Fits phase_key (phase_spelled now)
kept_fits now k =
    inr (inr (inl (record { at_table = refl; key_fields = alone 2; row_form = phase_form now k })))

pub row_fits : (now : Phase) (row : List ℕ) → row ≡ phase_spelled now → IsKept now → Fits phase_key row
row_fits now row is k = subst (Fits phase_key) (sym is) (kept_fits now k)

-- no key of the others is of table 0
elsewhere : (ls : List Line) (key row : List ℕ) → list_all (λ l. ltb 0 l.table) ls ≡ true → HasLine ls 0 key row → ⊥
elsewhere [] key row all h = h
elsewhere (l ∷ ls) key row all (inl f) =
    let p = and_parts (ltb 0 l.table) (list_all (λ l. ltb 0 l.table) ls) all in
    omega (arith, ltb-true 0 l.table p.0, f.at_table)
elsewhere (l ∷ ls) key row all (inr h) =
    elsewhere ls key row (and_parts (ltb 0 l.table) (list_all (λ l. ltb 0 l.table) ls) all).1 h

first : (b : ℕ) → AreFields (field.Byte b ∷ []) (2 ∷ []) → 2 ≡ b
first b a = ap (λ (t : List ℕ). slice_index t 0) (only b (2 ∷ []) a)

row_form : (row : List ℕ) → HasLine lines 0 (2 ∷ []) row → IsOneOf phases row
row_form row (inl f) = absurd (omega (arith, first 0 f.key_fields))
row_form row (inr (inl f)) = absurd (omega (arith, first 1 f.key_fields))
row_form row (inr (inr (inl f))) = f.row_form
row_form row (inr (inr (inr (inl f)))) = absurd (omega (arith, first 3 f.key_fields))
row_form row (inr (inr (inr (inr h)))) = absurd (elsewhere (drop 4 lines) (2 ∷ []) row refl h)

pub fitting : (row : List ℕ) → Fits phase_key row → IsSpelling phase_spelled IsKept row
fitting row h = phase_back row (row_form row h)

-- a row that was read under the key of the phase
pub fitting_at : (key row bytes : List ℕ) → key ≡ phase_key → bytes ≡ row → Fits key row → IsSpelling phase_spelled IsKept bytes
fitting_at key row bytes at is h =
    subst (IsSpelling phase_spelled IsKept) (sym is) (fitting row (subst (λ (t : List ℕ). Fits t row) at h))
