use Rattle.fast_walk.proofs.Common.{◌≡◌, ◌≤◌, ◌<◌, ◌+◌, ◌*◌, ◌++◌, ◌⊎◌, inl, inr, ℕ, List, drop, length, map, sym, ap, ◌∙◌, arith, rules, Waiting, all_around, cursor, top_on, bare, next_of, weight_of}
use Rattle.fast_walk.proofs.Walking.{is_instruction}
use Rattle.fast_walk.proofs.walk.Walk.fields.Goals as goal

weighs_less : {P : Type 0} (n m k v : ℕ) → P ⊎ (v ≡ 1) → (P → n < m) → n ≤ m → v ≤ 2 → 4 * n + 2 * k + v ≤ 4 * m + 2 * k + 1
weighs_less n m k v (inl p) fewer few most = omega (arith, fewer p, most)
weighs_less n m k v (inr one) fewer few most = omega (arith, one, few)

pub returns-in_ok-fields-in-Instruction-clause-fields : goal.returns-in_ok-fields-in-Instruction-clause-fields
returns-in_ok-fields-in-Instruction-clause-fields g c =
    let level = g.L.Leveled.at in
    let old = c.args.self.now in
    let fields = c.in_ok-fields-in-Instruction.fields in
    let took = c.in_ok-fields-in-Instruction.ensures in
    let end = c.go_behind.ensures in
    let less = weighs_less fields.spare old.spare (length old.around.items) (weight_of c.go_behind.new.next) end.none took.fewer took.few end.weight in (
      record {
        from = took.place.0;
        within = took.place.1;
        goes = λ o at.
            let p = took.goes o (is_instruction o.next (at.0.next ∙ ap next_of c.in-Instruction.is)) at.0.rest at.1 in (
              p.received,
              (record { next = p.next_is ∙ sym end.next; rest = p.left_is; around = ap (map bare) p.around ∙ at.0.around }, p.has),
              p.same,
              λ more.
                  ap (all_around level o.around) (rw (c.level.ensures) at p.reads more)
                  ∙ ap (λ (ws : List Waiting). all_around level ws (top_on level p.received.next p.received.body (cursor (g.E.Entries.contents c.fields.new.entries) c.fields.new.bits fields.spare (drop fields.place c.args.bytes.now ++ more)))) (sym p.around),
            );
        on = search rules;
      },
      omega (arith, less, ap weight_of c.in-Instruction.is),
    )
