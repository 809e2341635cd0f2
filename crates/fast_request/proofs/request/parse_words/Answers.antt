use Rattle.fast_request.proofs.Common.{map, app_of, found_of, rows_of, asked_by, rows_among}
use Rattle.fast_request.proofs.Words.{asks, rows_found}
use Rattle.fast_request.proofs.request.parse_words.Goals as goal

pub returns-in-Ok : goal.returns-in-Ok
returns-in-Ok c =
    let line = c.in_ok-line.ensures in
    let words = map (λ w. w.now) c.args.words.now in
    let found = rows_of (found_of c.in_ok-matches.matches) in
    let rows = rows_found (app_of c.in_ok-line.line) line.0 words found line.1 (λ simple. (c.in_ok-matches.ensures.ok.2 simple).0) in
    (line.0, asks found (rows_among line.0 words) (asked_by c.in-Ok.request) rows c.in-Ok.ensures)
