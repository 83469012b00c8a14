-- The proof's own: no public clause cites what stands here.
-- Which replies have bodies that are written, and not given.
use Rattle.std.specs.Prelude.{⊤}
use Rattle.reg_entries.specs.declared.reply.Reply.{Reply}
use Rattle.reg_entries.specs.declared.reply.Reply.TheVariants.{Manifest}

-- any but a manifest, whose bytes are its body
abbrev pub IsSpelled : Reply → Type 0
IsSpelled (Manifest kind digest bytes) = ⊥
IsSpelled _ = ⊤
