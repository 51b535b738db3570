use Rattle.ba_instant.proofs.ToldLemmas.{entry_added_by, link_added_by, mapping_added_by}
use Rattle.ba_instant.specs.declared.mapped.Form.TheVariants.{OfRule, OfView}
use Rattle.ba_instant.proofs.told.Told.add.Goals as goal

pub returns-in-Entry : goal.returns-in-Entry
returns-in-Entry c =
    entry_added_by c.args.self.now c.add_entry.new.self c.args.step c.in-Entry.branch c.in-Entry.entry c.in-Entry.is c.add_entry.result c.add_entry.ensures.entries c.add_entry.ensures.links c.add_entry.ensures.mappings

pub returns-in-Link : goal.returns-in-Link
returns-in-Link c =
    link_added_by c.args.self.now c.add_link.new.self c.args.step c.in-Link.branch c.in-Link.link c.in-Link.fact c.in-Link.is c.add_link.result c.add_link.ensures.links c.add_link.ensures.entries c.add_link.ensures.mappings

pub returns-in-Rule : goal.returns-in-Rule
returns-in-Rule c =
    mapping_added_by c.args.self.now c.add_mapping.new.self c.args.step c.in-Rule.branch (OfRule c.in-Rule.rule c.in-Rule.part) c.in-Rule.facts c.in-Rule.is c.add_mapping.result c.add_mapping.ensures.mappings c.add_mapping.ensures.entries c.add_mapping.ensures.links

pub returns-in-View : goal.returns-in-View
returns-in-View c =
    mapping_added_by c.args.self.now c.add_mapping-in-View.new.self c.args.step c.in-View.branch (OfView c.in-View.view c.in-View.part) c.in-View.facts c.in-View.is c.add_mapping-in-View.result c.add_mapping-in-View.ensures.mappings c.add_mapping-in-View.ensures.entries c.add_mapping-in-View.ensures.links
