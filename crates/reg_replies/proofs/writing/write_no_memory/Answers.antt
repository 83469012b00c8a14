use Rattle.reg_replies.proofs.writing.write_no_memory.Goals as goal

pub returns-clause-took : goal.returns-clause-took
returns-clause-took g c = rw (c.as_bytes.ensures.value, c.no_memory.ensures) at c.write_all.ensures.took
