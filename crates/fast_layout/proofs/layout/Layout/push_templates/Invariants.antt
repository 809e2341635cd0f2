use Rattle.std.proofs.Common.{◌≤◌, drop, map}
use Rattle.fast_template.specs.Resolved.{resolved_of}
use Rattle.fast_template.specs.TemplateSets.{size_of_all}
use Rattle.fast_layout.specs.Fields.{rows_of_all}
use Rattle.fast_layout.proofs.Laid.{IsLaid}
use Rattle.fast_layout.proofs.layout.Layout.push_templates.Given as goal

abbrev pub invariant-loop-template : goal.invariant-loop-template
invariant-loop-template l = record {
  laid : IsLaid (rows_of_all (map resolved_of l.templates)) (rows_of_all (map resolved_of (drop l.template-index l.templates))) l.fn.self l.self;
  small : size_of_all (map resolved_of (drop l.template-index l.templates)) ≤ 65535;
}
