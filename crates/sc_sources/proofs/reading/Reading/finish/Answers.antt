use Rattle.std.proofs.Common.{◌≡◌, length, map, sym, ap, ◌∙◌}
use Rattle.std.proofs.lemmas.Bool.Decides.{Decides-eqb}
use Rattle.std.proofs.lemmas.List.{nil_from_length}
use Rattle.jv_diag.specs.Plain.{diag_of}
use Rattle.sc_sources.proofs.Readings.{all_trees}
use Rattle.sc_sources.proofs.reading.Reading.finish.Goals as goal

pub returns-then-is_empty : goal.returns-then-is_empty
returns-then-is_empty c = λ fs limits is.
    let none : length c.as_slice.result.now ≡ 0 = (Decides-eqb (length c.as_slice.result.now) 0).0 (sym c.is_empty.ensures ∙ c.if-is_empty.true) in
    all_trees fs limits c.args.self is (sym c.as_slice.ensures ∙ ap (map diag_of) (nil_from_length c.as_slice.result.now none))
