use Rattle.reg_names.proofs.NamesLaw.{IsName-grammar}
use Rattle.reg_names.proofs.name.names_are_the_grammar.Goals as goal

pub returns : goal.returns
returns c = IsName-grammar
