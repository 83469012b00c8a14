use Rattle.std.proofs.Common.{◌≡◌, IfOk, subst}
use Rattle.link_paths.proofs.PlaceParts.{IsPath-in_repository, parts_in_repository}
use Rattle.link_paths.proofs.paths.in_repository.Goals as goal

pub path-requires : goal.path-requires
path-requires c =
    rw (c.deref.ensures, c.in_ok-format.ensures.ok)
    (IsPath-in_repository c.args.name.now c.args.inside.now c.requires.name c.requires.inside)

pub returns-clause-parts : goal.returns-clause-parts
returns-clause-parts c =
    let cut = rw (c.deref.ensures, c.in_ok-format.ensures.ok) at c.path.ensures in
    subst (λ parts. IfOk c.path.result (λ p. p ≡ parts)) (parts_in_repository c.args.name.now c.args.inside.now c.requires.name c.requires.inside) cut
