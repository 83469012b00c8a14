use Rattle.std.proofs.Common.{◌≡◌, List, subst, ◌&&◌}
use Rattle.std.specs.Prelude.{codes}
use Rattle.std.specs.List.{list_any}
use Rattle.http_wire.specs.declared.head.Field.{Field}
use Rattle.http_wire.specs.Framing.{is_same}
use Rattle.http_wire.specs.Questions.{has_element}
use Rattle.http_wire.proofs.ElementLaws.{ends_by_field}
use Rattle.http_wire.proofs.questions.ends_connection.Goals as goal

pub returns-else-head-eq0 : goal.returns-else-head-eq0
returns-else-head-eq0 c =
    let asks = subst (λ (fs : List Field). c.asks_to_close.result ≡ list_any (λ f. is_same f.name (codes "connection") && has_element (codes "close") f.value) fs) c.deref.ensures.value c.asks_to_close.ensures in
    ends_by_field c.args.head.now.minor c.args.head.now.fields.items c.asks_to_close.result c.if-head-eq0.false asks
