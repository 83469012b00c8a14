use Rattle.std.proofs.Common.{sym, ◌∙◌, map}
use Rattle.serde_json.specs.View.{view}
use Rattle.manifest_doc.proofs.DocumentLaws.{document_as_read}
use Rattle.manifest_doc.proofs.document.read_members.Goals as goal

pub returns-clause-ok : goal.returns-clause-ok
returns-clause-ok c = document_as_read (view c.args.object.now) _ record {
  config = c.in_ok-config.config;
  layer_values = map view c.elements.result.now;
  manifest_values = map view c.elements-2.result.now;
  layers = c.in_ok-layers.layers.items;
  manifests = c.in_ok-manifests.manifests.items;
  kind_is = sym c.kind_of_object.ensures ∙ c.in_ok-kind.ensures.ok_part;
  small = sym c.is_small.ensures ∙ c.if-not-is_small.false;
  config_is = c.in_ok-config.ensures;
  layers_from = c.elements.ensures;
  layers_all = c.in_ok-layers.ensures.all;
  layers_are = c.in_ok-layers.ensures.value;
  manifests_from = c.elements-2.ensures;
  manifests_all = c.in_ok-manifests.ensures.all;
  manifests_are = c.in_ok-manifests.ensures.value;
  named = c.in_ok-named_of.ensures;
  children = c.in_ok-children_of.ensures;
}
