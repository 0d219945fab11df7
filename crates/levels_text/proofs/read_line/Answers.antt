use Rattle.levels_text.proofs.Prelude.{refl, arith, rules, length, sym, ap, ◌∙◌, ◌<◌, ◌≤◌, ◌≡◌, read_no_room, read_wrong, too_long}
use Rattle.std.proofs.lemmas.Iterator.Consumers.{YieldsList-turn, YieldsList-end}
use Rattle.std.proofs.lemmas.List.{length_push}
use borrow.Author.Tests.{tests}
use Rattle.levels_text.proofs.Numbers.{line_cut, head_gives, tail_gives, wrong_first, numbers_begin, wrong_field, count_fits, numbers_more, line_read}
use Rattle.levels_text.proofs.read_line.Goals as goal

pub returns-then-line-gt-LONGEST : goal.returns-then-line-gt-LONGEST
returns-then-line-gt-LONGEST c = read_wrong _ _ _ (too_long _ c.if-line-gt-LONGEST.true) (λ h. refl)

pub returns-then-numbers-lt-MOST_NUMBERS : goal.returns-then-numbers-lt-MOST_NUMBERS
returns-then-numbers-lt-MOST_NUMBERS c = read_no_room _ _ c.if-numbers-lt-MOST_NUMBERS.true

pub returns-in_default : goal.returns-in_default
returns-in_default c =
    let cut = line_cut c.args.line.now c.split-fields.ensures.runs c.split-fields.ensures.rest c.split-fields.ensures.done c.split-fields.ensures.closure (λ x r q k. search (rules, tests)) in
    let width : length c.in_ok-next.field-0.now < 1 = c.in_default.len_below in
    let many : length c.in_ok-next.field-0.now ≡ 1 → ⊥ = λ e. omega arith in
    read_wrong _ _ _ (wrong_first _ (head_gives cut c.in_ok-next.was c.next.ensures.steps) many) (λ h. refl)

pub returns-in_default-2 : goal.returns-in_default-2
returns-in_default-2 c =
    let cut = line_cut c.args.line.now c.split-fields.ensures.runs c.split-fields.ensures.rest c.split-fields.ensures.done c.split-fields.ensures.closure (λ x r q k. search (rules, tests)) in
    let width : 2 ≤ length c.in_ok-next.field-0.now = c.in_default.len_at_least in
    let many : length c.in_ok-next.field-0.now ≡ 1 → ⊥ = λ e. omega arith in
    read_wrong _ _ _ (wrong_first _ (head_gives cut c.in_ok-next.was c.next.ensures.steps) many) (λ h. refl)

pub loop-field-init : goal.loop-field-init
loop-field-init c = record { counted = refl; read = numbers_begin _ _ }

pub returns-in_err-numbers : goal.returns-in_err-numbers
returns-in_err-numbers c =
    let cut = line_cut c.args.line.now c.split-fields.ensures.runs c.split-fields.ensures.rest c.split-fields.ensures.done c.split-fields.ensures.closure (λ x r q k. search (rules, tests)) in
    let rest = tail_gives cut c.in_ok-next.was c.next.ensures.steps c.into_iter-field-iterator.ensures.into_iter_gives in
    let turn = YieldsList-turn rest c.loop-field.yielded _ c.loop-field.yielded_by _ _ c.in-Some.field c.in-Some.is c.next-in-loop-field.ensures.steps in
    let next = rw (← c.loop-field.invariant.counted) at turn in
    rw c.from_residual-in_err-numbers.ensures
    (read_wrong _ _ _ (wrong_field c.loop-field.invariant.read next.0 next.1 (sym c.decimal.ensures ∙ c.in_err-numbers.was)) (λ h. absurd (omega arith)))

pub bounds-numbers-count : goal.bounds-numbers-count
bounds-numbers-count c =
    let cut = line_cut c.args.line.now c.split-fields.ensures.runs c.split-fields.ensures.rest c.split-fields.ensures.done c.split-fields.ensures.closure (λ x r q k. search (rules, tests)) in
    let rest = tail_gives cut c.in_ok-next.was c.next.ensures.steps c.into_iter-field-iterator.ensures.into_iter_gives in
    let turn = YieldsList-turn rest c.loop-field.yielded _ c.loop-field.yielded_by _ _ c.in-Some.field c.in-Some.is c.next-in-loop-field.ensures.steps in
    let next = rw (← c.loop-field.invariant.counted) at turn in
    let first : length c.in_ok-next.field-0.now ≡ 1 = omega (arith, c.in-len1.len_at_least, c.in-len1.len_below) in
    let same = head_gives cut c.in_ok-next.was c.next.ensures.steps in
    let fits : c.loop-field.count < length c.args.numbers.now = count_fits c.loop-field.invariant.read next.0 next.1 (sym c.decimal.ensures ∙ c.in_ok-numbers.was) c.if-line-gt-LONGEST.false c.if-numbers-lt-MOST_NUMBERS.false (sym (ap length same) ∙ first) in
    omega (arith, fits, c.loop-field.auto.numbers)

pub offset_bounds-numbers-count : goal.offset_bounds-numbers-count
offset_bounds-numbers-count c =
    let cut = line_cut c.args.line.now c.split-fields.ensures.runs c.split-fields.ensures.rest c.split-fields.ensures.done c.split-fields.ensures.closure (λ x r q k. search (rules, tests)) in
    let rest = tail_gives cut c.in_ok-next.was c.next.ensures.steps c.into_iter-field-iterator.ensures.into_iter_gives in
    let turn = YieldsList-turn rest c.loop-field.yielded _ c.loop-field.yielded_by _ _ c.in-Some.field c.in-Some.is c.next-in-loop-field.ensures.steps in
    let next = rw (← c.loop-field.invariant.counted) at turn in
    let first : length c.in_ok-next.field-0.now ≡ 1 = omega (arith, c.in-len1.len_at_least, c.in-len1.len_below) in
    let same = head_gives cut c.in_ok-next.was c.next.ensures.steps in
    let fits : c.loop-field.count < length c.args.numbers.now = count_fits c.loop-field.invariant.read next.0 next.1 (sym c.decimal.ensures ∙ c.in_ok-numbers.was) c.if-line-gt-LONGEST.false c.if-numbers-lt-MOST_NUMBERS.false (sym (ap length same) ∙ first) in
    omega (arith, fits)

pub overflow_add-count : goal.overflow_add-count
overflow_add-count c =
    let cut = line_cut c.args.line.now c.split-fields.ensures.runs c.split-fields.ensures.rest c.split-fields.ensures.done c.split-fields.ensures.closure (λ x r q k. search (rules, tests)) in
    let rest = tail_gives cut c.in_ok-next.was c.next.ensures.steps c.into_iter-field-iterator.ensures.into_iter_gives in
    let turn = YieldsList-turn rest c.loop-field.yielded _ c.loop-field.yielded_by _ _ c.in-Some.field c.in-Some.is c.next-in-loop-field.ensures.steps in
    let next = rw (← c.loop-field.invariant.counted) at turn in
    let first : length c.in_ok-next.field-0.now ≡ 1 = omega (arith, c.in-len1.len_at_least, c.in-len1.len_below) in
    let same = head_gives cut c.in_ok-next.was c.next.ensures.steps in
    let fits : c.loop-field.count < length c.args.numbers.now = count_fits c.loop-field.invariant.read next.0 next.1 (sym c.decimal.ensures ∙ c.in_ok-numbers.was) c.if-line-gt-LONGEST.false c.if-numbers-lt-MOST_NUMBERS.false (sym (ap length same) ∙ first) in
    omega (arith, fits)

pub loop-field-preserved : goal.loop-field-preserved
loop-field-preserved c =
    let cut = line_cut c.args.line.now c.split-fields.ensures.runs c.split-fields.ensures.rest c.split-fields.ensures.done c.split-fields.ensures.closure (λ x r q k. search (rules, tests)) in
    let rest = tail_gives cut c.in_ok-next.was c.next.ensures.steps c.into_iter-field-iterator.ensures.into_iter_gives in
    let turn = YieldsList-turn rest c.loop-field.yielded _ c.loop-field.yielded_by _ _ c.in-Some.field c.in-Some.is c.next-in-loop-field.ensures.steps in
    let next = rw (← c.loop-field.invariant.counted) at turn in
    let first : length c.in_ok-next.field-0.now ≡ 1 = omega (arith, c.in-len1.len_at_least, c.in-len1.len_below) in
    let same = head_gives cut c.in_ok-next.was c.next.ensures.steps in
    let fits : c.loop-field.count < length c.args.numbers.now = count_fits c.loop-field.invariant.read next.0 next.1 (sym c.decimal.ensures ∙ c.in_ok-numbers.was) c.if-line-gt-LONGEST.false c.if-numbers-lt-MOST_NUMBERS.false (sym (ap length same) ∙ first) in
    record {
      counted = omega (arith, length_push c.loop-field.yielded c.in-Some.field);
      read = numbers_more c.loop-field.invariant.read next.0 next.1 (sym c.decimal.ensures ∙ c.in_ok-numbers.was) fits;
    }

pub returns : goal.returns
returns c =
    let cut = line_cut c.args.line.now c.split-fields.ensures.runs c.split-fields.ensures.rest c.split-fields.ensures.done c.split-fields.ensures.closure (λ x r q k. search (rules, tests)) in
    let rest = tail_gives cut c.in_ok-next.was c.next.ensures.steps c.into_iter-field-iterator.ensures.into_iter_gives in
    let first : length c.in_ok-next.field-0.now ≡ 1 = omega (arith, c.in-len1.len_at_least, c.in-len1.len_below) in
    let same = head_gives cut c.in_ok-next.was c.next.ensures.steps in
    let end = YieldsList-end rest c.loop-field.yielded _ c.loop-field.yielded_by _ _ c.in-None.is c.next-in-loop-field.ensures.steps in
    line_read c.loop-field.invariant.read c.if-line-gt-LONGEST.false c.if-numbers-lt-MOST_NUMBERS.false same first refl (c.loop-field.invariant.counted ∙ end.1)
