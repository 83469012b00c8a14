-- The cause of a fault: a device counts its faults, and tells one only in a call in which the count rose.
use Rattle.std.specs.Prelude.{◌≡◌, ℕ, ◌+◌, ◌-◌, ◌^◌, ◌≤◌, min}

-- A count went up by one at least, or stands at the end of its type.
abbrev pub Rose : ℕ → ℕ → Type 0
Rose before now = min (before + 1) (2 ^ 64 - 1) ≤ now

-- The count never falls, and the fault was told only where it rose.
pub record HasCause (before now : ℕ) (told : Type 0) : Type 0 where
  pub later : before ≤ now
  pub rose : told → Rose before now

-- A call that only reads leaves what a device holds, and tells a fault only where the device's count rose.
pub record OnlyReads {D H : Type 0} (held : D → H) (faults : D → ℕ) (old new : D) (told : Type 0) : Type 0 where
  pub held_stays : held new ≡ held old
  pub cause : HasCause (faults old) (faults new) told
