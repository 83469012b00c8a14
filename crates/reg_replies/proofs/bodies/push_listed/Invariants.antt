use Rattle.std.proofs.Common.{◌≡◌, ◌++◌, take, codes}
use denote.Shadow.{shadow}
use denote.Text.{Utf8}
use Rattle.std.specs.List.{join_by}
use Rattle.std.specs.String.{string_bytes}
use Rattle.json.specs.Print.{quoted}
use Rattle.reg_replies.proofs.ListLaws.{between_behind}
use Rattle.reg_replies.proofs.bodies.push_listed.Given as goal

-- the strings of the tags that were passed, and what stands before the next one
abbrev pub invariant-loop-tag : goal.invariant-loop-tag
invariant-loop-tag l = record {
  text : string_bytes l.text ≡ string_bytes l.initial.text ++ join_by quoted (codes ",") (take l.tag-index l.tags);
  comma : l.comma ≡ between_behind quoted (codes ",") (take l.tag-index l.tags);
  utf8 : shadow (Utf8 l.comma);
}
