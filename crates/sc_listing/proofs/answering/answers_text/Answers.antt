use Rattle.std.proofs.Common.{◌<◌, codes, length, map, string_bytes, nat_le, ap, ◌∙◌, Vec, ℕ, Global}
use Rattle.std.specs.List.{All}
use Rattle.std.proofs.lemmas.List.Elements.{All-filter}
use Rattle.jv_layout.specs.Readers.{file_of, types_of}
use Rattle.sc_listing.specs.Answers.{unit_of}
use Rattle.sc_listing.specs.Listed.{listed_of}
use Rattle.sc_listing.specs.Titles.{listed_files, listed_types}
use Rattle.sc_listing.proofs.OwnEntries.{as_many, entries_in}
use Rattle.sc_listing.proofs.UnitTexts.{all_small, by_log, joined}
use Rattle.sc_listing.proofs.answering.answers_text.Goals as goal

pub push_units-requires : goal.push_units-requires
push_units-requires c =
    let w = listed_of c.args.w.now in
    all_small w c.deref.result.now (listed_files w) (length c.deref-2.result.now) c.unit_count.result (c.deref.ensures.value ∙ c.in_ok-files.ensures)
    (ap length c.deref-2.ensures.value ∙ as_many entries_in c.in_ok-entries.entries.items c.unit_count.result c.args.log.now c.in_ok-entries.ensures) c.unit_count.ensures.files

pub push_units-requires-2 : goal.push_units-requires-2
push_units-requires-2 c =
    let w = listed_of c.args.w.now in
    let l = c.args.w.now.layout.now in
    let small : All (λ s. unit_of l s < c.unit_count.result) (listed_types w) = All-filter (λ t. nat_le 2 (file_of l t)) (λ s. unit_of l s < c.unit_count.result) (types_of l) c.unit_count.ensures.types in
    all_small w c.deref-3.result.now (listed_types w) (length c.deref-4.result.now) c.unit_count.result (c.deref-3.ensures.value ∙ c.in_ok-types.ensures)
    (ap length c.deref-4.ensures.value ∙ as_many entries_in c.in_ok-entries.entries.items c.unit_count.result c.args.log.now c.in_ok-entries.ensures) small

pub returns : goal.returns
returns c =
    let w = listed_of c.args.w.now in
    let l = c.args.w.now.layout.now in
    let log = c.args.log.now in
    let count = c.unit_count.result in
    let small : All (λ s. unit_of l s < count) (listed_types w) = All-filter (λ t. nat_le 2 (file_of l t)) (λ s. unit_of l s < count) (types_of l) c.unit_count.ensures.types in
    let f = c.in_ok-push_units.ensures in
    let t = c.in_ok-push_units-2.ensures in (
      f.0,
      t.0,
      by_log w log count c.deref-2.result.now (ap (map entries_in) c.deref-2.ensures.value ∙ c.in_ok-entries.ensures) c.deref.result.now (listed_files w) f.0 (c.deref.ensures.value ∙ c.in_ok-files.ensures) c.unit_count.ensures.files f.1,
      by_log w log count c.deref-4.result.now (ap (map entries_in) c.deref-4.ensures.value ∙ c.in_ok-entries.ensures) c.deref-3.result.now (listed_types w) t.0 (c.deref-3.ensures.value ∙ c.in_ok-types.ensures) small t.1,
      joined (string_bytes c.new-text.result) (string_bytes c.push_units.new.text) (string_bytes c.push_units-2.new.text) (string_bytes c.push_str.new.self) c.into_bytes.result.items f.0 t.0 (codes "end\n") c.new-text.ensures.bytes f.2 t.2 c.in_ok-push_str.ensures.bytes
          (ap (λ (v : Vec ℕ Global). v.items) c.into_bytes.ensures.value),
    )
