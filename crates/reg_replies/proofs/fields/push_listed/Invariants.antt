use Rattle.std.proofs.Common.{◌≡◌, ◌++◌, take, codes}
use denote.Shadow.{shadow}
use denote.Text.{Utf8}
use Rattle.std.specs.List.{join_by}
use Rattle.std.specs.String.{string_bytes}
use Rattle.reg_entries.specs.Routes.{method_text}
use Rattle.reg_replies.proofs.ListLaws.{between_behind}
use Rattle.reg_replies.proofs.fields.push_listed.Given as goal

-- the names of the methods that were passed, and what stands before the next one
abbrev pub invariant-loop-method : goal.invariant-loop-method
invariant-loop-method l = record {
  text : string_bytes l.out ≡ string_bytes l.initial.out ++ join_by method_text (codes ", ") (take l.method-index l.methods);
  comma : l.comma ≡ between_behind method_text (codes ", ") (take l.method-index l.methods);
  utf8 : shadow (Utf8 l.comma);
}
