use Rattle.std.proofs.Common.{◌≡◌, ⊎_elim}
use Rattle.std.specs.Prelude.{OnOk}
use Rattle.reg_journal.specs.declared.entry.What.{What}
use Rattle.reg_journal.specs.declared.entry.What.TheVariants.{Put, SetTag, DropTag, DropManifest, Mark, Link, Unlink, Brought, BroughtLink, BroughtTag, RemovedManifest, RemovedLink, BroughtBlob, Collect, DropLink, Doom, Erase}
use Rattle.reg_tables.specs.InnerPending.{Works}
use Rattle.reg_tables.specs.InnerSteps.{made, without_beside}
use Rattle.reg_tables.proofs.EntryLaws.{told_by, so_on, noted_on}
use Rattle.reg_tables.proofs.entries.change.Goals as goal

pub returns-in-DropTag-clause-step : goal.returns-in-DropTag-clause-step
returns-in-DropTag-clause-step g c tells =
    let a = c.args in
    let k = c.in-DropTag in
    told_by c.unpoint.result (g.K.Keeper.kept a.keeper.now).rows a.pending.now c.unpoint.new.pending a.number a.now a.what.now (DropTag k.name k.tag) k.is (c.unpoint.ensures.step tells)

pub returns-in-RemovedManifest-clause-step : goal.returns-in-RemovedManifest-clause-step
returns-in-RemovedManifest-clause-step g c tells =
    let a = c.args in
    let k = c.in-RemovedManifest in
    told_by c.take_tagged.result (g.K.Keeper.kept a.keeper.now).rows a.pending.now c.take_tagged.new.pending a.number a.now a.what.now (RemovedManifest k.name k.digest) k.is (c.take_tagged.ensures.step tells)

pub returns-in-Mark-clause-step : goal.returns-in-Mark-clause-step
returns-in-Mark-clause-step g c tells =
    let a = c.args in
    let k = c.in-Mark in
    told_by c.mark.result (g.K.Keeper.kept a.keeper.now).rows a.pending.now c.mark.new.pending a.number a.now a.what.now (Mark k.digest) k.is (c.mark.ensures.step tells)

pub returns-in-BroughtBlob-clause-step : goal.returns-in-BroughtBlob-clause-step
returns-in-BroughtBlob-clause-step g c tells =
    let a = c.args in
    let k = c.in-BroughtBlob in
    told_by c.bring_blob.result (g.K.Keeper.kept a.keeper.now).rows a.pending.now c.bring_blob.new.pending a.number a.now a.what.now (BroughtBlob k.digest k.size) k.is (c.bring_blob.ensures.step tells)

pub returns-in-Unlink-clause-step : goal.returns-in-Unlink-clause-step
returns-in-Unlink-clause-step g c tells =
    let a = c.args in
    let k = c.in-Unlink in
    let rows = (g.K.Keeper.kept a.keeper.now).rows in
    let by = λ (w : What) (e : a.what.now ≡ w) (m : OnOk c.drop_link.result (Works rows a.pending.now c.drop_link.new.pending (made a.number a.now w) (without_beside w))). told_by c.drop_link.result rows a.pending.now c.drop_link.new.pending a.number a.now a.what.now w e m in
    ⊎_elim (λ e. by (Unlink k.name k.digest) e (c.drop_link.ensures.step tells)) (⊎_elim (λ e. by (RemovedLink k.name k.digest) e (c.drop_link.ensures.step tells)) (λ e. by (DropLink k.name k.digest) e (c.drop_link.ensures.step tells))) k.is

pub returns-in-Link-clause-step : goal.returns-in-Link-clause-step
returns-in-Link-clause-step g c tells =
    let a = c.args in
    let k = c.in-Link in
    let rows = (g.K.Keeper.kept a.keeper.now).rows in
    let by = λ (w : What) (e : a.what.now ≡ w) (m : OnOk c.bring_link.result (Works rows a.pending.now c.bring_link.new.pending (made a.number a.now w) (without_beside w))). told_by c.bring_link.result rows a.pending.now c.bring_link.new.pending a.number a.now a.what.now w e m in
    ⊎_elim (λ e. by (Link k.name k.digest k.size) e (c.bring_link.ensures.step tells)) (λ e. by (BroughtLink k.name k.digest k.size) e (c.bring_link.ensures.step tells)) k.is

pub returns-in-DropManifest-clause-step : goal.returns-in-DropManifest-clause-step
returns-in-DropManifest-clause-step g c tells =
    let a = c.args in
    let k = c.in-DropManifest in
    let rows = (g.K.Keeper.kept a.keeper.now).rows in
    let by = λ (w : What) (e : a.what.now ≡ w) (m : OnOk c.take_away.result (Works rows a.pending.now c.take_away.new.pending (made a.number a.now w) (without_beside w))). told_by c.take_away.result rows a.pending.now c.take_away.new.pending a.number a.now a.what.now w e m in
    ⊎_elim (λ e. by (DropManifest k.name k.digest) e (c.take_away.ensures.step tells)) (λ e. by (Collect k.name k.digest) e (c.take_away.ensures.step tells)) k.is

pub returns-in-SetTag-clause-step : goal.returns-in-SetTag-clause-step
returns-in-SetTag-clause-step g c tells =
    let a = c.args in
    let k = c.in-SetTag in
    let rows = (g.K.Keeper.kept a.keeper.now).rows in
    let by = λ (w : What) (e : a.what.now ≡ w) (m : OnOk c.point.result (Works rows a.pending.now c.point.new.pending (made a.number a.now w) (without_beside w))). told_by c.point.result rows a.pending.now c.point.new.pending a.number a.now a.what.now w e m in
    ⊎_elim (λ e. by (SetTag k.name k.tag k.digest) e (c.point.ensures.step tells)) (λ e. by (BroughtTag k.name k.tag k.digest) e (c.point.ensures.step tells)) k.is

pub returns-in-Put-clause-step : goal.returns-in-Put-clause-step
returns-in-Put-clause-step g c tells =
    let a = c.args in
    let k = c.in-Put in
    let rows = (g.K.Keeper.kept a.keeper.now).rows in
    let by = λ (w : What) (e : a.what.now ≡ w) (m : OnOk c.store_manifest.result (Works rows a.pending.now c.store_manifest.new.pending (made a.number a.now w) (without_beside w))). told_by c.store_manifest.result rows a.pending.now c.store_manifest.new.pending a.number a.now a.what.now w e m in
    ⊎_elim (λ e. by (Put k.name k.digest k.doc) e (c.store_manifest.ensures.step tells)) (λ e. by (Brought k.name k.digest k.doc) e (c.store_manifest.ensures.step tells)) k.is

pub returns-in-Doom-clause-step : goal.returns-in-Doom-clause-step
returns-in-Doom-clause-step g c tells =
    let a = c.args in
    let k = c.in-Doom in
    let rows = (g.K.Keeper.kept a.keeper.now).rows in
    let kind : What = Doom k.digest in
    told_by c.noting.result rows a.pending.now c.doom.new.pending a.number a.now a.what.now kind k.is
    (noted_on (Works rows a.pending.now c.doom.new.pending (made a.number a.now kind) (without_beside kind)) c.doom.result c.noting.result c.noting.ensures.ok (so_on c.doom.result (λ w. w rows) c.doom.ensures))

pub returns-in-Erase-clause-step : goal.returns-in-Erase-clause-step
returns-in-Erase-clause-step g c tells =
    let a = c.args in
    let k = c.in-Erase in
    let rows = (g.K.Keeper.kept a.keeper.now).rows in
    let kind : What = Erase k.digest in
    told_by c.noting-in-Erase.result rows a.pending.now c.erase_blob.new.pending a.number a.now a.what.now kind k.is
    (noted_on (Works rows a.pending.now c.erase_blob.new.pending (made a.number a.now kind) (without_beside kind)) c.erase_blob.result c.noting-in-Erase.result c.noting-in-Erase.ensures.ok (so_on c.erase_blob.result (λ w. w rows) c.erase_blob.ensures))
