use Rattle.std.proofs.Common.{◌+◌, ◌<◌, length, take, drop, arith, subst, sym}
use Rattle.fast_write.specs.Ways.{GoesOn, here}
use Rattle.fast_write.proofs.Going.{fed_on, fed_short, goes_on, kept_stops, line_goes, line_stops, memory_stops, whole_cut, whole_fed, whole_on}
use Rattle.fast_write.specs.Written.{IsShort}
use Rattle.fast_write.proofs.Standing.{stands_closed}
use Rattle.fast_write.proofs.way.Way.take_piece.Goals as goal

pub returns-in-Err-clause-comes : goal.returns-in-Err-clause-comes
returns-in-Err-clause-comes g c = λ left before input go.
    let end = c.line_end-end.result in
    let bytes = c.args.bytes.now in
    let k = c.in-Err.ensures.kept in
    kept_stops go (here c.keep.new.self) left (take end bytes) (drop end bytes) _ c.in-Err.fault k.0 c.line_end-end.ensures.clean k.1 (whole_cut input bytes end)

pub returns-then-end-bytes-clause-comes : goal.returns-then-end-bytes-clause-comes
returns-then-end-bytes-clause-comes g c = λ left before input go. let k = c.in-Ok.ensures.kept in goes_on go (here c.keep.new.self) _ c.line_end-end.ensures.clean k.0 k.1

pub returns-in-Err-push_feed-clause-comes : goal.returns-in-Err-push_feed-clause-comes
returns-in-Err-push_feed-clause-comes g c = λ left before input go.
    let k = c.in-Ok.ensures.kept in
    let on = goes_on go (here c.keep.new.self) _ c.line_end-end.ensures.clean k.0 k.1 in
    memory_stops on left _ (drop c.line_end-end.result c.args.bytes.now) _ (whole_on input c.args.bytes.now c.line_end-end.result)

pub returns-in-Ok-end_line-clause-comes : goal.returns-in-Ok-end_line-clause-comes
returns-in-Ok-end_line-clause-comes g c = λ left before input go.
    let k = c.in-Ok.ensures.kept in
    let end = c.line_end-end in
    let on = goes_on go (here c.keep.new.self) _ end.ensures.clean k.0 k.1 in
    let inside : end.result < length c.args.bytes.now = omega arith in
    let fed = c.in-Ok-push_feed.ensures.fed in
    let ended = c.in-Ok-end_line.ensures.ends before on.lines (stands_closed on.stands _) (subst IsShort (sym fed) (fed_short on)) in
    subst (GoesOn (here c.end_line.new.self) before _) (fed_on input c.args.bytes.now end.result inside (end.ensures.feed inside)) (line_goes on _ fed (here c.end_line.new.self) _ ended)

pub returns-in-Err-end_line-clause-comes : goal.returns-in-Err-end_line-clause-comes
returns-in-Err-end_line-clause-comes g c = λ left before input go.
    let k = c.in-Ok.ensures.kept in
    let end = c.line_end-end in
    let on = goes_on go (here c.keep.new.self) _ end.ensures.clean k.0 k.1 in
    let inside : end.result < length c.args.bytes.now = omega arith in
    let fed = c.in-Ok-push_feed.ensures.fed in
    let ended = c.in-Err-end_line.ensures.ends before on.lines (stands_closed on.stands _) (subst IsShort (sym fed) (fed_short on)) in
    line_stops on _ fed (here c.end_line.new.self) left _ (drop (end.result + 1) c.args.bytes.now) _ c.in-Err-end_line.fault c.in-Err-end_line.ensures.same (whole_fed input c.args.bytes.now end.result inside (end.ensures.feed inside)) ended
