use Rattle.fast_walk.proofs.Common.{◌≡◌, ◌++◌, ◌∷◌, ◌-◌, [], length, length-append, map, sym, ap, List, vec_len, ◌∙◌, rules, refl, map_push, list_of, fewer, in_sequence, frame_of, sequel_of, Frame as FrameNow, Element}
use Rattle.fast_walk.specs.declared.walk.Sequel.{Sequel as SequelNow}
use Rattle.fast_walk.proofs.Walking.{at_last}
use Rattle.fast_walk.proofs.walk.Walk.go_on.Goals as goal

pub returns-in-Element : goal.returns-in-Element
returns-in-Element c = λ fore f frames.
    let items = c.args.self.now.around.items in
    let n = vec_len c.args.self.now.around in
    let long : length items ≡ n = search rules in
    let waits = c.in-Some.frame.now in
    let elements = c.in-Element.elements in
    let last = at_last items fore n f waits long frames in
    let l = c.requires.last in
    let e = sym c.in-Element.is ∙ ap (λ (x : FrameNow). x.inside) (c.in-Some.ensures.value ∙ (at_last items l.fore n l.frame waits long l.frames).0) ∙ l.inside in
    let same : elements ≡ c.args.sequel = cc in
    let later : FrameNow = record { bits = waits.bits; rest = waits.rest; inside = Element (record { number = elements.number; own_map = elements.own_map; members = elements.members; left = elements.left - 1 }) } in
    record {
      bits = refl;
      spare = refl;
      next = c.requires.next;
      rest = refl;
      around = ap (map frame_of) (last.1 later) ∙ map_push frame_of fore later
          ∙ ap (λ (x : FrameNow). map frame_of fore ++ record { bits = x.bits; number = elements.number; body = record { rest = list_of x.rest.now; done = [] }; inside = in_sequence (fewer (sequel_of elements)) } ∷ []) (c.in-Some.ensures.value ∙ last.0)
          ∙ ap (λ (x : SequelNow). map frame_of fore ++ record { bits = f.bits; number = x.number; body = record { rest = list_of f.rest.now; done = [] }; inside = in_sequence (fewer (sequel_of x)) } ∷ []) same;
      depth = ap (λ (fs : List FrameNow). length fs) (last.1 later) ∙ length-append fore (later ∷ []);
    }
