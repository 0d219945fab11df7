-- The contracts determine the outcomes. Choice is left in one place only: after a table is loaded, the key store's slots below
-- 2 × capacity, of which soundness is promised. Assumes nothing.
use Rattle.refusals.specs.Laws.Numbers.{answer_view_injective}
use Rattle.refusals.specs.declared.Refusal.{Refusal}
use Rattle.std.specs.Prelude.{ℕ, ◌*◌, ◌<◌, ◌≡◌, refl, Bool, List, length, drop, Result}
use Rattle.std.proofs.Common.{sym, ap, ◌∙◌, ⊎_elim, arith}
use Rattle.std.proofs.Math.Option.{Option, none, some, Option-elim}
use Rattle.lists.specs.Lists.{splice}
use Rattle.refusals.specs.Refusals.{Reply, refused, accepted, reply}
use Rattle.refusals.specs.Laws.Replies.{some_number}
use Rattle.refusals.specs.Laws.Determined.{Same, refused_same}
use Rattle.table.specs.declared.Header.{Header}
use Rattle.refusals.specs.Refusals.{answer_view}
use Rattle.table.specs.Outcomes.{Body, SamePast}
use Rattle.image_spec.specs.Image.{Image}
use Rattle.image_spec.specs.Outcomes.{Decoded, read_refusal, ImageRead, text_refusal, text_of, TextRead}
use Rattle.image_spec.specs.Laws.Unique.{reads_unique}
use Rattle.image_check.specs.Laws.Determined.{same_image, same_sound}

-- ---- *Read text*

pub text_read_determined : {words output output₁ output₂ : List ℕ} {a b : Result ℕ Refusal}
    → TextRead words output a output₁ → TextRead words output b output₂ → Same a b output₁ output₂
text_read_determined {words} {output} {a = a} {b = b} x y =
    let e = reads_unique words x.image y.image x.reads y.reads in
    let number = ap (λ (i : Option Image). text_refusal i (length output)) e in
    record {
      answer = answer_view_injective a b (x.effect.answers ∙ ap (λ (i : Option Image). reply (text_refusal i (length output)) (length (text_of i))) e ∙ sym y.effect.answers);
      cells =
          ⊎_elim (λ z. x.effect.written z ∙ ap (λ (i : Option Image). splice output 0 (text_of i)) e ∙ sym (y.effect.written (sym number ∙ z)))
          (λ k. x.effect.unchanged k ∙ sym (y.effect.unchanged (rw number at k)))
          (some_number (text_refusal x.image (length output)));
    }

-- ---- *Read image*

-- both are refused with the same number, or both accepted
refusal_alike : {words : List ℕ} (a b : Decoded words) (capacity : ℕ) (s : Body) (pending : List ℕ) (x : Option Image) → a.image ≡ x
    → read_refusal a.image a.sound capacity s pending ≡ read_refusal b.image b.sound capacity s pending
unfolding read_refusal Option-elim
refusal_alike a b capacity s pending none e = rw (e, sym (same_image a b) ∙ e)
refusal_alike a b capacity s pending (some i) e = rw (e, sym (same_image a b) ∙ e, same_sound a b i e)

-- words that are not refused are an image
refusal_some : (x : Option Image) (sound : Bool) (capacity : ℕ) (s : Body) (pending : List ℕ) → read_refusal x sound capacity s pending ≡ 0 → (i : Image) × (x ≡ some i)
unfolding read_refusal Option-elim
refusal_some none sound capacity s pending z = absurd (omega arith)
refusal_some (some i) sound capacity s pending z = (i, refl)

module _ (words : List ℕ) (capacity : ℕ) (s : Body) (pending : List ℕ) (a : Result Header Refusal) (s₁ : Body) (pending₁ : List ℕ) (b : Result Header Refusal) (s₂ : Body) (pending₂ : List ℕ) where
  -- two outcomes: the same but for the choice
  pub record SameRead : Type 0 where
    pub answer : a ≡ b
    pub rows : s₁.rows ≡ s₂.rows
    pub sorts : s₁.sorts ≡ s₂.sorts
    pub pending_words : pending₁ ≡ pending₂
    -- the key store of a refused call, and what is never written of an accepted one's
    pub keys : (n : ℕ) → answer_view a ≡ refused n → s₁.keys ≡ s₂.keys
    pub slots_past : (h : Header) → answer_view a ≡ accepted h → SamePast (2 * h.capacity) s₁.keys s₂.keys

  pub image_read_determined : ImageRead words capacity s pending a s₁ pending₁ → ImageRead words capacity s pending b s₂ pending₂ → SameRead
  image_read_determined x y = ⊎_elim accept refuse (some_number number)
    where
      number : ℕ
      number = read_refusal x.decoded.image x.decoded.sound capacity s pending

      alike : number ≡ read_refusal y.decoded.image y.decoded.sound capacity s pending
      alike = refusal_alike x.decoded y.decoded capacity s pending x.decoded.image refl

      refuse : 0 < number → SameRead
      refuse k =
          let u = x.unchanged k in
          let v = y.unchanged (rw alike at k) in
          let bodies : s₁ ≡ s₂ = u.0 ∙ sym v.0 in
          record {
            answer = refused_same answer_view_injective x.refusal (y.refusal ∙ ap (λ (n : ℕ). reply n tt) (sym alike)) k;
            rows = ap (λ (c : Body). c.rows) bodies;
            sorts = ap (λ (c : Body). c.sorts) bodies;
            pending_words = u.1 ∙ sym v.1;
            keys = λ n _. ap (λ (c : Body). c.keys) bodies;
            slots_past = λ h _. ap (λ (c : Body). drop (2 * h.capacity) c.keys) (sym bodies);
          }

      accept : number ≡ 0 → SameRead
      accept z =
          let i = refusal_some x.decoded.image x.decoded.sound capacity s pending z in
          let g = x.loaded i.0 i.1 z in
          let h = y.loaded i.0 (sym (same_image x.decoded y.decoded) ∙ i.1) (sym alike ∙ z) in
          record {
            answer = answer_view_injective a b (g.answers ∙ sym h.answers);
            rows = g.rows_after ∙ sym h.rows_after;
            sorts = g.sorts_after ∙ sym h.sorts_after;
            pending_words = g.pending_after ∙ sym h.pending_after;
            keys = λ n e. absurd (never n _ (sym e ∙ g.answers));
            slots_past = λ k e. rw (same_header k _ (sym e ∙ g.answers)) (h.past ∙ sym g.past);
          }
        where
          never : (n : ℕ) (k : Header) → ◌≡◌ {A = Reply Header} (refused n) (accepted k) → ⊥
          never n k e = let z : ◌≡◌ {A = ℕ} 0 1 = cc in omega arith

          same_header : (k l : Header) → ◌≡◌ {A = Reply Header} (accepted k) (accepted l) → k ≡ l
          same_header k l e = cc
