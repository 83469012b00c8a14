use Rattle.std.proofs.Common.{◌≡◌, ⊎_elim}
use Rattle.std.specs.Prelude.{OnOk}
use Rattle.reg_journal.specs.declared.entry.What.{What}
use Rattle.reg_journal.specs.declared.entry.What.TheVariants.{Put, SetTag, DropTag, DropManifest, Mark, Link, Unlink, Brought, BroughtLink, BroughtTag, RemovedManifest, RemovedLink, BroughtBlob, Collect, DropLink, Erase}
use Rattle.reg_plain.specs.InnerChanges.{IsMoved, left_by}
use Rattle.reg_plain.proofs.ApplyLaws.{told, moved_by}
use Rattle.reg_plain.proofs.ChangeLaws.{removed_moved}
use Rattle.reg_plain.proofs.state.State.change.Goals as goal

pub returns-in-DropTag-clause-changed : goal.returns-in-DropTag-clause-changed
returns-in-DropTag-clause-changed c =
    let a = c.args in
    let k = c.in-DropTag in
    told c.drop_tag.result a.number a.now a.what.now (DropTag k.name k.tag) a.self.now c.drop_tag.new.self k.is c.drop_tag.ensures.changed

pub returns-in-Mark-clause-changed : goal.returns-in-Mark-clause-changed
returns-in-Mark-clause-changed c =
    let a = c.args in
    let k = c.in-Mark in
    told c.mark.result a.number a.now a.what.now (Mark k.digest) a.self.now c.mark.new.self k.is c.mark.ensures.changed

pub returns-in-BroughtBlob-clause-changed : goal.returns-in-BroughtBlob-clause-changed
returns-in-BroughtBlob-clause-changed c =
    let a = c.args in
    let k = c.in-BroughtBlob in
    told c.bring_blob.result a.number a.now a.what.now (BroughtBlob k.digest k.size) a.self.now c.bring_blob.new.self k.is c.bring_blob.ensures.changed

pub returns-in-Erase-clause-changed : goal.returns-in-Erase-clause-changed
returns-in-Erase-clause-changed c =
    let a = c.args in
    let k = c.in-Erase in
    told c.erase.result a.number a.now a.what.now (Erase k.digest) a.self.now c.erase.new.self k.is c.erase.ensures.changed

pub returns-in_ok-drop_manifest-in-RemovedManifest-clause-changed : goal.returns-in_ok-drop_manifest-in-RemovedManifest-clause-changed
returns-in_ok-drop_manifest-in-RemovedManifest-clause-changed c =
    let a = c.args in
    let k = c.in-RemovedManifest in
    moved_by a.number a.now a.what.now (RemovedManifest k.name k.digest) a.self.now c.drop_tags_to.new.self k.is
    (removed_moved a.self.now c.drop_manifest.new.self c.drop_tags_to.new.self k.name k.digest a.number a.now c.in_ok-drop_manifest-in-RemovedManifest.ensures.changed c.drop_tags_to.ensures)

pub returns-in-Unlink-clause-changed : goal.returns-in-Unlink-clause-changed
returns-in-Unlink-clause-changed c =
    let a = c.args in
    let k = c.in-Unlink in
    let by = λ (w : What) (e : a.what.now ≡ w) (m : OnOk c.drop_link.result (IsMoved (left_by a.number a.now w) a.self.now c.drop_link.new.self)). told c.drop_link.result a.number a.now a.what.now w a.self.now c.drop_link.new.self e m in
    ⊎_elim (λ e. by (Unlink k.name k.digest) e c.drop_link.ensures.changed) (⊎_elim (λ e. by (RemovedLink k.name k.digest) e c.drop_link.ensures.changed) (λ e. by (DropLink k.name k.digest) e c.drop_link.ensures.changed)) k.is

pub returns-in-Link-clause-changed : goal.returns-in-Link-clause-changed
returns-in-Link-clause-changed c =
    let a = c.args in
    let k = c.in-Link in
    let by = λ (w : What) (e : a.what.now ≡ w) (m : OnOk c.put_link.result (IsMoved (left_by a.number a.now w) a.self.now c.put_link.new.self)). told c.put_link.result a.number a.now a.what.now w a.self.now c.put_link.new.self e m in
    ⊎_elim (λ e. by (Link k.name k.digest k.size) e c.put_link.ensures.changed) (λ e. by (BroughtLink k.name k.digest k.size) e c.put_link.ensures.changed) k.is

pub returns-in-DropManifest-clause-changed : goal.returns-in-DropManifest-clause-changed
returns-in-DropManifest-clause-changed c =
    let a = c.args in
    let k = c.in-DropManifest in
    let by = λ (w : What) (e : a.what.now ≡ w) (m : OnOk c.drop_manifest-in-DropManifest.result (IsMoved (left_by a.number a.now w) a.self.now c.drop_manifest-in-DropManifest.new.self)). told c.drop_manifest-in-DropManifest.result a.number a.now a.what.now w a.self.now c.drop_manifest-in-DropManifest.new.self e m in
    ⊎_elim (λ e. by (DropManifest k.name k.digest) e c.drop_manifest-in-DropManifest.ensures.changed) (λ e. by (Collect k.name k.digest) e c.drop_manifest-in-DropManifest.ensures.changed) k.is

pub returns-in-SetTag-clause-changed : goal.returns-in-SetTag-clause-changed
returns-in-SetTag-clause-changed c =
    let a = c.args in
    let k = c.in-SetTag in
    let by = λ (w : What) (e : a.what.now ≡ w) (m : OnOk c.point_tag.result (IsMoved (left_by a.number a.now w) a.self.now c.point_tag.new.self)). told c.point_tag.result a.number a.now a.what.now w a.self.now c.point_tag.new.self e m in
    ⊎_elim (λ e. by (SetTag k.name k.tag k.digest) e c.point_tag.ensures.changed) (λ e. by (BroughtTag k.name k.tag k.digest) e c.point_tag.ensures.changed) k.is

pub returns-in-Put-clause-changed : goal.returns-in-Put-clause-changed
returns-in-Put-clause-changed c =
    let a = c.args in
    let k = c.in-Put in
    let by = λ (w : What) (e : a.what.now ≡ w) (m : OnOk c.put_manifest.result (IsMoved (left_by a.number a.now w) a.self.now c.put_manifest.new.self)). told c.put_manifest.result a.number a.now a.what.now w a.self.now c.put_manifest.new.self e m in
    ⊎_elim (λ e. by (Put k.name k.digest k.doc) e c.put_manifest.ensures.changed) (λ e. by (Brought k.name k.digest k.doc) e c.put_manifest.ensures.changed) k.is
