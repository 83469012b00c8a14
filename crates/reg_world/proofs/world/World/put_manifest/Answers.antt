use Rattle.reg_world.proofs.MoveLaws.{push_moves}
use Rattle.reg_world.proofs.world.World.put_manifest.Goals as goal

pub returns-clause-moves : goal.returns-clause-moves
returns-clause-moves g c =
    push_moves (g.D.Depot.held c.args.self.now.depot) (g.D.Depot.held c.put_manifest.new.depot) (g.D.Depot.faults c.args.self.now.depot) (g.D.Depot.faults c.put_manifest.new.depot)
    c.args.self.now.claims c.put_manifest.result c.put_manifest.ensures.trouble c.put_manifest.ensures.changes.cause c.args.name.now c.args.at.now c.args.pushed.now c.put_manifest.ensures.changes.made
