use Rattle.reg_world.proofs.MoveLaws.{drop_moves}
use Rattle.reg_world.proofs.world.World.drop_reference.Goals as goal

pub returns-clause-moves : goal.returns-clause-moves
returns-clause-moves g c =
    drop_moves (g.D.Depot.held c.args.self.now.depot) (g.D.Depot.held c.drop_reference.new.depot) (g.D.Depot.faults c.args.self.now.depot) (g.D.Depot.faults c.drop_reference.new.depot)
    c.args.self.now.claims c.drop_reference.result c.drop_reference.ensures.trouble c.drop_reference.ensures.changes.cause c.args.name.now c.args.at.now c.drop_reference.ensures.changes.made
