-- Gaps that are filled: what is written behind them, a gap more, and the gaps one by one.
use Rattle.std.proofs.Common.{◌≡◌, ◌≤◌, ◌<◌, ℕ, ◌+◌, ◌-◌, get_or, List, [], ◌∷◌, ◌++◌, length, take, drop, length-drop, length-take, refl, sym, ap, ap₂, ◌∙◌, append_assoc, append-nil, arith}
use Rattle.std.proofs.lemmas.List.{drop_all, drop_min, drop_more, take_all, take-append-le, drop-append-le, drop-drop}
use Rattle.fast_lines.specs.declared.form.Form.{Form}
use Rattle.fast_gaps.specs.declared.gap.Gap.{Gap}
use Rattle.fast_gaps.specs.declared.gap.PlacedGap.{PlacedGap}
use Rattle.fast_gaps.specs.Gaps.{Texts, closed, filled, gap_text, no_texts, texts_after, texts_behind}

-- ---- what is written behind the last gap

more_behind : (form : Form) (gs : List PlacedGap) (texts : Texts) (written more fill : List ℕ) (n : ℕ) → n ≤ length written
    → filled form gs texts (drop n written ++ more) ≡ filled form gs texts (drop n written) ++ more
    → take n (written ++ more) ++ (fill ++ filled form gs texts (drop n (written ++ more))) ≡ (take n written ++ (fill ++ filled form gs texts (drop n written))) ++ more
more_behind form gs texts written more fill n few rest =
    let later = filled form gs texts (drop n written) in
    ap₂ (λ (a b : List ℕ). a ++ (fill ++ filled form gs texts b)) (take-append-le n written more few) (drop-append-le n written more few)
    ∙ ap (λ (x : List ℕ). take n written ++ (fill ++ x)) rest
    ∙ ap (λ (x : List ℕ). take n written ++ x) (sym (append_assoc fill later more))
    ∙ sym (append_assoc (take n written) (fill ++ later) more)

pub filled_more : (form : Form) (gs : List PlacedGap) (texts : Texts) (written more : List ℕ) → closed gs ≤ length written
    → filled form gs texts (written ++ more) ≡ filled form gs texts written ++ more
filled_more form [] texts written more few = refl
filled_more form (g ∷ gs) texts written more few =
    let size = length-drop g.behind written in
    more_behind form gs (texts_behind g.gap texts) written more (gap_text form g.gap texts) g.behind (omega (arith, few))
    (filled_more form gs (texts_behind g.gap texts) (drop g.behind written) more (omega (arith, few, size)))

-- ---- a gap more, behind all that is written

pub closed_more : (gs : List PlacedGap) (g : PlacedGap) → closed (gs ++ g ∷ []) ≡ closed gs + g.behind
closed_more [] g = omega arith
closed_more (h ∷ gs) g = let rest = closed_more gs g in omega (arith, rest)

pub texts_more : (gs : List PlacedGap) (g : PlacedGap) (texts : Texts) → texts_after (gs ++ g ∷ []) texts ≡ texts_behind g.gap (texts_after gs texts)
texts_more [] g texts = refl
texts_more (h ∷ gs) g texts = texts_more gs g (texts_behind h.gap texts)

-- all of a list is its front, and nothing is behind it
all_taken : (written fill : List ℕ) (n : ℕ) → length written ≡ n → take n written ++ (fill ++ drop n written) ≡ written ++ fill
all_taken written fill n size = rw (take_all n written (omega (arith, size)), drop_all n written (omega (arith, size)), append-nil fill) refl

pub filled_gap : (form : Form) (gs : List PlacedGap) (texts : Texts) (written : List ℕ) (n : ℕ) (gap : Gap) → closed gs + n ≡ length written
    → filled form (gs ++ (record { behind = n; gap = gap }) ∷ []) texts written ≡ filled form gs texts written ++ gap_text form gap (texts_after gs texts)
filled_gap form [] texts written n gap size = all_taken written (gap_text form gap texts) n (omega (arith, size))
filled_gap form (h ∷ gs) texts written n gap size =
    let later = texts_behind h.gap texts in
    let rest = drop h.behind written in
    let left = length-drop h.behind written in
    let fill = gap_text form gap (texts_after gs later) in
    ap (λ (x : List ℕ). take h.behind written ++ (gap_text form h.gap texts ++ x)) (filled_gap form gs later rest n gap (omega (arith, left, size)))
    ∙ ap (λ (x : List ℕ). take h.behind written ++ x) (sym (append_assoc (gap_text form h.gap texts) (filled form gs later rest) fill))
    ∙ sym (append_assoc (take h.behind written) (gap_text form h.gap texts ++ filled form gs later rest) fill)

-- ---- what a list of gaps keeps with one more

pub closed_by_one : (gs more : List PlacedGap) (gap : Gap) (c written : ℕ) → more ≡ gs ++ (record { behind = written - c; gap = gap }) ∷ [] → c ≡ closed gs → c ≤ written → written ≡ closed more
closed_by_one gs more gap c written is same few = rw (is) (let e = closed_more gs (record { behind = written - c; gap = gap }) in omega (arith, e, same, few))

pub texts_by_one : (gs more : List PlacedGap) (g : PlacedGap) (texts later : Texts) → more ≡ gs ++ g ∷ [] → ((slot : ℕ) → texts slot ≡ texts_after gs no_texts slot)
    → ((slot : ℕ) → later slot ≡ texts_behind g.gap texts slot) → (slot : ℕ) → later slot ≡ texts_after more no_texts slot
texts_by_one gs more g texts later is same behind slot =
    let all : texts ≡ texts_after gs no_texts = λ i other. same other i in
    behind slot ∙ ap (λ (t : Texts). texts_behind g.gap t slot) all ∙ sym (ap (λ (t : Texts). t slot) (ap (λ (xs : List PlacedGap). texts_after xs no_texts) is ∙ texts_more gs g no_texts))

pub filled_by_one : (form : Form) (gs more : List PlacedGap) (gap : Gap) (written : List ℕ) (c n : ℕ) → more ≡ gs ++ (record { behind = n - c; gap = gap }) ∷ [] → c ≡ closed gs → c ≤ n → n ≡ length written
    → filled form more no_texts written ≡ filled form gs no_texts written ++ gap_text form gap (texts_after gs no_texts)
filled_by_one form gs more gap written c n is same few size = rw (is) (filled_gap form gs no_texts written (n - c) gap (omega (arith, same, few, size)))

pub filled_behind : (form : Form) (gs : List PlacedGap) (c : ℕ) (written later more : List ℕ) → c ≡ closed gs → c ≤ length written → later ≡ written ++ more
    → filled form gs no_texts later ≡ filled form gs no_texts written ++ more
filled_behind form gs c written later more same few is = rw (is) (filled_more form gs no_texts written more (omega (arith, same, few)))

-- ---- gap by gap

pub gap_passed : (form : Form) (gs : List PlacedGap) (k at behind : ℕ) (g : PlacedGap) (old between new : Texts) (text out fill later : List ℕ)
    → k < length gs → get_or gs k g ≡ g → behind ≡ length (take g.behind (drop at text)) → fill ≡ take g.behind (drop at text) ++ gap_text form g.gap old → later ≡ out ++ fill
    → ((slot : ℕ) → between slot ≡ old slot) → ((slot : ℕ) → new slot ≡ texts_behind g.gap between slot)
    → later ++ filled form (drop (k + 1) gs) new (drop (at + behind) text) ≡ out ++ filled form (drop k gs) old (drop at text)
gap_passed form gs k at behind g old between new text out fill later within here few made is same passed =
    let rest = drop at text in
    let back : drop (at + behind) text ≡ drop g.behind rest = sym (drop-drop behind at text) ∙ ap (λ (n : ℕ). drop n rest) (few ∙ length-take g.behind rest) ∙ drop_min g.behind rest in
    let before : between ≡ old = λ i slot. same slot i in
    let texts : new ≡ texts_behind g.gap old = (λ i slot. passed slot i) ∙ ap (texts_behind g.gap) before in
    let next : drop k gs ≡ g ∷ drop (k + 1) gs = drop_more gs k g within ∙ ap (λ (h : PlacedGap). h ∷ drop (k + 1) gs) here in
    rw (is, made, back, texts, next, append_assoc, append_assoc) refl
