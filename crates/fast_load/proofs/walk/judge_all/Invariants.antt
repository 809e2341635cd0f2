use Rattle.fast_load.proofs.Common.{◌≡◌, ◌+◌, map, drop, take, written_template_of, first_at_fault, kept_of}
use Rattle.fast_load.proofs.walk.judge_all.Given as goal

abbrev pub invariant-loop-template : goal.invariant-loop-template
invariant-loop-template g l = record {
  fault : first_at_fault (g.J.Judge.judges_template l.judge) (g.J.Judge.judges l.judge) (map written_template_of (drop l.template-index l.templates)) l.place ≡ first_at_fault (g.J.Judge.judges_template l.judge) (g.J.Judge.judges l.judge) (map written_template_of l.templates) 1;
  place : l.place ≡ l.template-index + 1;
  kept : map (λ row. row.items) l.rows.items ≡ map (λ t. kept_of (g.J.Judge.keeps l.judge) (written_template_of t).members) (take l.template-index l.templates);
}
