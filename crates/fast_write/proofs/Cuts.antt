-- Lines cut from what is read.
use Rattle.std.proofs.Common.{◌≡◌, ℕ, ◌+◌, ◌<◌, ◌≤◌, true, ◌==◌, List, [], ◌∷◌, ◌++◌, length, filter, refl, sym, ap, ◌∙◌, arith, append_assoc, append-nil, length-append}
use Rattle.std.proofs.lemmas.Bool.{and_parts, not-true}
use Rattle.std.proofs.lemmas.List.Elements.{filter-append}
use Rattle.std.specs.List.{list_all}
use Rattle.fast_spelled.specs.Spelled.{in_front, lines_of}
use Rattle.fast_spelled.proofs.Feeds.{both_clean, split_line}
use Rattle.fast_write.specs.Written.{is_no_feed, line_limit, size_of}
use Rattle.fast_write.specs.Ways.{IsCut}

abbrev NoFeed : List ℕ → Type 0
NoFeed s = list_all is_no_feed s ≡ true

-- ---- sizes

clean_filter : (s : List ℕ) → NoFeed s → filter is_no_feed s ≡ s
clean_filter [] h = refl
clean_filter (c ∷ cs) h = let p : (is_no_feed c ≡ true) × NoFeed cs = and_parts _ _ h in rw (p.0) (ap (λ (l : List ℕ). c ∷ l) (clean_filter cs p.1))

pub clean_size : (s : List ℕ) → NoFeed s → size_of s ≡ length s
clean_size s h = ap (λ (l : List ℕ). length l) (clean_filter s h)

pub size_append : (s t : List ℕ) → size_of (s ++ t) ≡ size_of s + size_of t
size_append s t = ap (λ (l : List ℕ). length l) (filter-append is_no_feed s t) ∙ length-append (filter is_no_feed s) (filter is_no_feed t)

-- with its line feed
pub fed_size : (s : List ℕ) → NoFeed s → size_of (s ++ 10 ∷ []) ≡ length s
fed_size s h = let a = size_append s (10 ∷ []) in let b = clean_size s h in omega (arith, a, b)

-- ---- what is read

pub cut_begins : IsCut [] [] []
cut_begins = record { cut = λ more. refl; no_feed = refl; short = omega arith }

pub cut_more : {input begun : List ℕ} {lines : List (List ℕ)} → IsCut input lines begun → (bytes : List ℕ) → NoFeed bytes → length (begun ++ bytes) ≤ line_limit → IsCut (input ++ bytes) lines (begun ++ bytes)
cut_more {input = input} {begun = begun} {lines = lines} c bytes clean short = record {
  cut = λ more. ap lines_of (append_assoc input bytes more) ∙ c.cut (bytes ++ more) ∙ ap (λ l. lines ++ lines_of l) (sym (append_assoc begun bytes more));
  no_feed = both_clean begun bytes c.no_feed clean;
  short = short;
}

-- what is begun, with its line feed, is the next line
pub next_line : {input begun : List ℕ} {lines : List (List ℕ)} → IsCut input lines begun → (more : List ℕ) → lines_of ((input ++ 10 ∷ []) ++ more) ≡ lines ++ ((begun ++ 10 ∷ []) ∷ lines_of more)
next_line {input = input} {begun = begun} {lines = lines} c more =
    ap lines_of (append_assoc input (10 ∷ []) more) ∙ c.cut (10 ∷ more) ∙ ap (λ l. lines ++ l) (split_line begun more c.no_feed)

pub cut_line : {input begun : List ℕ} {lines : List (List ℕ)} → IsCut input lines begun → IsCut (input ++ 10 ∷ []) (lines ++ (begun ++ 10 ∷ []) ∷ []) []
cut_line {begun = begun} {lines = lines} c = record {
  cut = λ more. next_line c more ∙ sym (append_assoc lines ((begun ++ 10 ∷ []) ∷ []) (lines_of more));
  no_feed = refl;
  short = omega arith;
}

-- ---- the last line, which has no line feed

in_line : (c : ℕ) (cs : List ℕ) → is_no_feed c ≡ true → lines_of (c ∷ cs) ≡ in_front c (lines_of cs)
in_line c cs h = rw (not-true (c == 10) h) refl

pub open_line : (c : ℕ) (cs : List ℕ) → NoFeed (c ∷ cs) → lines_of (c ∷ cs) ≡ (c ∷ cs) ∷ []
open_line c [] h = in_line c [] (and_parts _ _ h).0
open_line c (d ∷ cs) h = let p : (is_no_feed c ≡ true) × NoFeed (d ∷ cs) = and_parts _ _ h in in_line c (d ∷ cs) p.0 ∙ ap (in_front c) (open_line d cs p.1)

pub last_line : (begun : List ℕ) → NoFeed begun → (length begun ≡ 0 → ⊥) → lines_of begun ≡ begun ∷ []
last_line [] h some = absurd (some refl)
last_line (c ∷ cs) h some = open_line c cs h

pub no_line : (begun : List ℕ) → length begun ≡ 0 → lines_of begun ≡ []
no_line [] e = refl
no_line (c ∷ cs) e = absurd (omega (arith, e))

pub all_cut : {input begun : List ℕ} {lines : List (List ℕ)} → IsCut input lines begun → lines_of input ≡ lines ++ lines_of begun
all_cut {input = input} {begun = begun} {lines = lines} c = ap lines_of (sym (append-nil input)) ∙ c.cut [] ∙ ap (λ l. lines ++ lines_of l) (append-nil begun)

-- nothing follows
pub nothing_follows : (input : List ℕ) (lines rest : List (List ℕ)) → lines_of (input ++ []) ≡ lines ++ rest → lines_of input ≡ lines ++ rest
nothing_follows input lines rest cut = ap lines_of (sym (append-nil input)) ∙ cut

pub ends_between : {input begun : List ℕ} {lines : List (List ℕ)} → IsCut input lines begun → length begun ≡ 0 → lines_of input ≡ lines
ends_between {begun = begun} {lines = lines} c none = all_cut c ∙ ap (λ l. lines ++ l) (no_line begun none) ∙ append-nil lines

pub ends_open : {input begun : List ℕ} {lines : List (List ℕ)} → IsCut input lines begun → (length begun ≡ 0 → ⊥) → lines_of input ≡ lines ++ begun ∷ []
ends_open {begun = begun} {lines = lines} c some = all_cut c ∙ ap (λ l. lines ++ l) (last_line begun c.no_feed some)

-- ---- a line that is too long

-- the first line of a text that begins without a line feed begins with that
pub record Begins (front text : List ℕ) : Type 0 where
  pub rest : List ℕ
  pub more : List (List ℕ)
  pub is : lines_of text ≡ (front ++ rest) ∷ more

begins_one : (c : ℕ) (ls : List (List ℕ)) → (rest : List ℕ) × (more : List (List ℕ)) × (in_front c ls ≡ ((c ∷ []) ++ rest) ∷ more)
begins_one c [] = ([], [], refl)
begins_one c (l ∷ ls) = (l, ls, refl)

pub begins : (front text : List ℕ) → NoFeed front → (length front ≡ 0 → ⊥) → Begins front (front ++ text)
begins [] text h some = absurd (some refl)
begins (c ∷ []) text h some =
    let b = begins_one c (lines_of text) in
    record { rest = b.0; more = b.1; is = in_line c text (and_parts _ _ h).0 ∙ b.2 }
begins (c ∷ d ∷ cs) text h some =
    let p : (is_no_feed c ≡ true) × NoFeed (d ∷ cs) = and_parts _ _ h in
    let b = begins (d ∷ cs) text p.1 (λ e. absurd (omega (arith, e))) in
    record { rest = b.rest; more = b.more; is = in_line c ((d ∷ cs) ++ text) p.0 ∙ ap (in_front c) b.is }

pub too_long : {input begun : List ℕ} {lines : List (List ℕ)} → IsCut input lines begun → (bytes more : List ℕ) → NoFeed bytes → line_limit < length (begun ++ bytes)
    → (line : List ℕ) × (rest : List (List ℕ)) × (lines_of (input ++ (bytes ++ more)) ≡ lines ++ line ∷ rest) × (line_limit < size_of line)
too_long {begun = begun} {lines = lines} c bytes more clean long =
    let front = both_clean begun bytes c.no_feed clean in
    let b = begins (begun ++ bytes) more front (λ e. absurd (omega (arith, e, long))) in
    let size = size_append (begun ++ bytes) b.rest in
    let whole = clean_size (begun ++ bytes) front in (
      (begun ++ bytes) ++ b.rest,
      b.more,
      c.cut (bytes ++ more) ∙ ap (λ l. lines ++ lines_of l) (sym (append_assoc begun bytes more)) ∙ ap (λ l. lines ++ l) b.is,
      omega (arith, long, size, whole),
    )
