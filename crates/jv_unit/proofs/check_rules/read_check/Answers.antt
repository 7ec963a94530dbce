use Rattle.std.proofs.Common.{◌-◌, ◌*◌, arith, refl}
use Rattle.jv_layout.specs.Readers.{members_of_type}
use Rattle.jv_names.specs.Replies.{reply_to}
use Rattle.jv_unit.specs.Kept.{folder_of}
use Rattle.jv_unit.proofs.CheckPlaces.{count_checks}
use Rattle.jv_unit.proofs.CheckRules.{body_here, calling_here, declaration_here, left_here, left_of_body, meeting_here, methods_here, overriding_here}
use Rattle.jv_unit.proofs.check_rules.read_check.Goals as goal

pub returns-then-place-count-clause-reads : goal.returns-then-place-count-clause-reads
returns-then-place-count-clause-reads c =
    declaration_here (reply_to c.args.o.now) (folder_of c.args.w.now) c.args.t c.args.blanks.now c.args.place c.member_number-m.result c.args.place c.member_number-m.ensures.number (omega (arith, c.if-place-count.true, c.member_count-count.ensures.count)) c.read_declaration.result refl c.read_declaration.ensures

pub returns-then-place-count-2-clause-reads : goal.returns-then-place-count-2-clause-reads
returns-then-place-count-2-clause-reads c = methods_here (reply_to c.args.o.now) (folder_of c.args.w.now) c.args.t c.args.blanks.now c.args.place c.read_methods.result (omega (arith, c.if-place-count-2.true, c.member_count-count.ensures.count)) c.read_methods.ensures

pub returns-then-place-count-3-clause-reads : goal.returns-then-place-count-3-clause-reads
returns-then-place-count-3-clause-reads c =
    overriding_here (reply_to c.args.o.now) (folder_of c.args.w.now) c.args.t c.args.blanks.now c.args.place c.member_number-m-then-place-count-3.result (c.args.place - c.member_count-count.result - 1) c.member_number-m-then-place-count-3.ensures.number (omega (arith, c.if-place-count.false, c.if-place-count-2.false, c.if-place-count-3.true, c.member_count-count.ensures.count)) c.read_overriding.result
    (omega (arith, c.if-place-count.false, c.if-place-count-2.false, c.member_count-count.ensures.count)) c.read_overriding.ensures

pub returns-then-place-count-4-clause-reads : goal.returns-then-place-count-4-clause-reads
returns-then-place-count-4-clause-reads c = meeting_here (reply_to c.args.o.now) (folder_of c.args.w.now) c.args.t c.args.blanks.now c.args.place c.read_meeting.result (omega (arith, c.if-place-count-4.true, c.member_count-count.ensures.count)) c.read_meeting.ensures

pub returns-then-place-count-5-clause-reads : goal.returns-then-place-count-5-clause-reads
returns-then-place-count-5-clause-reads c =
    calling_here (reply_to c.args.o.now) (folder_of c.args.w.now) c.args.t c.args.blanks.now c.args.place c.member_number-m-then-place-count-5.result (c.args.place - 2 * c.member_count-count.result - 2) c.member_number-m-then-place-count-5.ensures.number
    (omega (arith, c.if-place-count-3.false, c.if-place-count-4.false, c.if-place-count-5.true, c.member_count-count.ensures.count)) c.read_calling.result
    (omega (arith, c.if-place-count-3.false, c.if-place-count-4.false, c.member_count-count.ensures.count)) c.read_calling.ensures

pub read_whole_body-requires-clause-so_far : goal.read_whole_body-requires-clause-so_far
read_whole_body-requires-clause-so_far c =
    left_of_body (reply_to c.args.o.now) (folder_of c.args.w.now) c.args.t c.args.blanks.now c.args.place c.member_number-m-2.result (c.args.place - 3 * c.member_count-count.result - 2) c.member_number-m-2.ensures.number (omega (arith, c.requires.place, c.if-place-count-5.false, c.member_count-count.ensures.count, count_checks (members_of_type c.args.w.now.layout c.args.t))) (omega (arith, c.if-place-count-5.false, c.member_count-count.ensures.count))
    c.args.progress.now c.requires.so_far

pub returns-clause-reads : goal.returns-clause-reads
returns-clause-reads c =
    body_here (reply_to c.args.o.now) (folder_of c.args.w.now) c.args.t c.args.blanks.now c.args.place c.member_number-m-2.result (c.args.place - 3 * c.member_count-count.result - 2) c.member_number-m-2.ensures.number (omega (arith, c.requires.place, c.if-place-count-5.false, c.member_count-count.ensures.count, count_checks (members_of_type c.args.w.now.layout c.args.t))) (omega (arith, c.if-place-count-5.false, c.member_count-count.ensures.count))
    c.read_whole_body.result c.read_whole_body.ensures.reads

pub returns-clause-so_far : goal.returns-clause-so_far
returns-clause-so_far c =
    left_here (reply_to c.args.o.now) (folder_of c.args.w.now) c.args.t c.args.blanks.now c.args.place c.member_number-m-2.result (c.args.place - 3 * c.member_count-count.result - 2) c.member_number-m-2.ensures.number (omega (arith, c.requires.place, c.if-place-count-5.false, c.member_count-count.ensures.count, count_checks (members_of_type c.args.w.now.layout c.args.t))) (omega (arith, c.if-place-count-5.false, c.member_count-count.ensures.count))
    c.read_whole_body.new.progress c.read_whole_body.ensures.so_far
