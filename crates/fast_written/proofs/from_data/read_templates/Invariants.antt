use Rattle.fast_written.proofs.Common.{◌≡◌, ◌+◌, min, drop, map, option_map, items_in, read_templates, written_template_of}
use Rattle.fast_written.proofs.JsonReading.{templates_behind}
use Rattle.fast_written.proofs.from_data.read_templates.Given as goal

abbrev pub invariant-loop-value : goal.invariant-loop-value
invariant-loop-value l =
    (templates_behind (map written_template_of l.templates.items) (read_templates (option_map (λ s. s.now) l.default) (items_in (drop l.value-index l.values)) (l.value-index + 1)) ≡ read_templates (option_map (λ s. s.now) l.default) (items_in l.values) 1)
    × (l.place ≡ min (l.value-index + 1) 4294967295)
