use Rattle.std.proofs.Common.{sym, ap, ◌∙◌}
use Rattle.std.specs.Ordering.{is_eq}
use Rattle.std.specs.Cmp.Lexicographic.{texts_ties}
use Rattle.reg_names.specs.References.{reference_text}
use Rattle.reg_names.proofs.reference.ReferencePartialEq.eq.Goals as goal

pub returns : goal.returns
returns c = c.is_eq.ensures ∙ ap is_eq c.cmp.ensures ∙ sym (texts_ties (reference_text c.args.self.now) (reference_text c.args.other.now))
