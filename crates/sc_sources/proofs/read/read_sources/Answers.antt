use Rattle.std.proofs.Common.{◌≡◌, ℕ, ◌+◌, ◌<◌, List, [], ◌∷◌, ◌++◌, length, get_or, sym, ap, ◌∙◌, subst, arith}
use Rattle.sc_io.specs.declared.source_file.SourceFile.{SourceFile}
use Rattle.sc_sources.specs.Reading.{IsReading}
use Rattle.sc_sources.proofs.Folders.{first_sources, next_sources, is_small, has_room, second_fits, second_counts}
use Rattle.sc_sources.proofs.read.read_sources.Goals as goal

pub add-requires-2-clause-room : goal.add-requires-2-clause-room
add-requires-2-clause-room c = second_fits c.object_source.result.now c.string_source.result.now c.object_source.ensures c.string_source.ensures c.add.new.self (c.in_ok-add.ensures [] c.new-reading.ensures)

pub add-requires-2-clause-files : goal.add-requires-2-clause-files
add-requires-2-clause-files c = second_counts c.object_source.result.now c.string_source.result.now c.object_source.ensures c.string_source.ensures c.add.new.self (c.in_ok-add.ensures [] c.new-reading.ensures)

pub add-requires-in-loop-file-clause-size : goal.add-requires-in-loop-file-clause-size
add-requires-in-loop-file-clause-size c =
    let files : List SourceFile = c.args.files.now in
    let i : ℕ = c.loop-file.file-index in
    let d : SourceFile = c.file-item.result in
    let below : i < length files = omega arith in
    let here : get_or files i d ≡ d = cc in
    omega (arith, is_small files c.requires i d below, ap (λ (f : SourceFile). length f.bytes.items) here, ap length c.deref.ensures.value)

pub add-requires-in-loop-file-clause-room : goal.add-requires-in-loop-file-clause-room
add-requires-in-loop-file-clause-room c =
    let files : List SourceFile = c.args.files.now in
    let i : ℕ = c.loop-file.file-index in
    let d : SourceFile = c.file-item.result in
    let below : i < length files = omega arith in
    let here : get_or files i d ≡ d = cc in
    omega (arith, has_room files c.requires i d below c.loop-file.reading c.loop-file.invariant, ap (λ (f : SourceFile). length f.bytes.items) here, ap length c.deref.ensures.value)

pub loop-file-preserved : goal.loop-file-preserved
loop-file-preserved c =
    let files : List SourceFile = c.args.files.now in
    let i : ℕ = c.loop-file.file-index in
    let d : SourceFile = c.file-item.result in
    let below : i < length files = omega arith in
    let here : get_or files i d ≡ d = cc in
    let bytes : c.deref.result.now ≡ (get_or files i d).bytes.items = c.deref.ensures.value ∙ sym (ap (λ (f : SourceFile). f.bytes.items) here) in
    let same : first_sources files i ++ c.deref.result.now ∷ [] ≡ first_sources files (i + 1) = ap (λ (b : List ℕ). first_sources files i ++ b ∷ []) bytes ∙ sym (next_sources files i d below) in
    subst (λ (bs : List (List ℕ)). IsReading bs c.add-in-loop-file.new.self) same (c.in_ok-add-3.ensures (first_sources files i) c.loop-file.invariant)
