use Rattle.image_write.proofs.Prelude.{ℕ, ◌+◌, ◌-◌, ◌≤◌, ◌≡◌, refl, sym, ap, ap₂, ◌∙◌, List, [], ◌++◌, append-nil, arith, length, take, drop, set, length-drop, drop-drop, drop_of_length-le, length-take-le, take-length, packed, length_packed}
use borrow.Rule.Slice.PartMut.{put_mid}
use Rattle.lists.specs.Lists.{splice}
use Rattle.lists.specs.Laws.Parts.{copy_step}
use Rattle.image_write.proofs.parts.write_text.Goals as goal

-- the part has as many words as the text
long : (at n : ℕ) (output : List ℕ) → at + n ≤ length output → length (take (at + n - at) (drop at output)) ≡ n
long at n output h =
    length-take-le (at + n - at) (drop at output) (rw (length-drop at output) (omega arith)) ∙ omega arith

-- the part written back
put : (l w part : List ℕ) (at n : ℕ) → length w ≡ n → part ≡ w → put_mid at (at + n - at) l part ≡ splice l at w
unfolding splice
put l w part at n e p =
    let k : at + (at + n - at) ≡ at + length w = omega (arith, e) in
    ap₂ (λ (x y : List ℕ). take at l ++ (x ++ y)) p (drop-drop (at + n - at) at l ∙ ap (λ (m : ℕ). drop m l) k)

pub loop-i-init : goal.loop-i-init
loop-i-init c = refl

pub text_word-requires : goal.text_word-requires
text_word-requires c =
    let a = c.args in
    let p = c.packed_length-words.ensures in
    omega (arith, long a.at c.packed_length-words.result a.output.now (omega arith), c.loop-i-test.true)

pub loop-i-preserved : goal.loop-i-preserved
loop-i-preserved c =
    let a = c.args in
    let l = c.loop-i in
    let p = c.packed_length-words.ensures in
    let n : length (packed a.text.now) ≡ c.packed_length-words.result = length_packed a.text.now ∙ sym p in
    let m = long a.at c.packed_length-words.result a.output.now (omega arith) in
    ap₂ (λ (x : List ℕ) (v : ℕ). set x l.i v) l.invariant c.text_word.ensures
    ∙ copy_step (packed a.text.now) (take (a.at + c.packed_length-words.result - a.at) (drop a.at a.output.now)) l.i 0 (omega (arith, c.loop-i-test.true)) c.loop-i-test.true

pub returns : goal.returns
returns c =
    let a = c.args in
    let l = c.loop-i in
    let p = c.packed_length-words.ensures in
    let n : length (packed a.text.now) ≡ c.packed_length-words.result = length_packed a.text.now ∙ sym p in
    let m = long a.at c.packed_length-words.result a.output.now (omega arith) in
    let e : l.i ≡ length (packed a.text.now) = omega (arith, l.auto.i-end, c.loop-i-test.false) in
    let none_left : drop l.i (take (a.at + c.packed_length-words.result - a.at) (drop a.at a.output.now)) ≡ [] = drop_of_length-le (take (a.at + c.packed_length-words.result - a.at) (drop a.at a.output.now)) c.loop-i-test.false in
    put a.output.now (packed a.text.now) _ a.at c.packed_length-words.result n (l.invariant ∙ rw (none_left, append-nil (take l.i (packed a.text.now)), e, take-length (packed a.text.now)))
