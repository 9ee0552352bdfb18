-- A pass by number of a bell alone and of a machine that plays it: it plays it still.
-- Assumes nothing.
use mathlib.Core.Path.{◌≡◌, refl, sym, ap, ◌∙◌}
use mathlib.Core.Logic.{◌≢◌}
use mathlib.Core.Bool.{true}
use mathlib.Core.List.{[]}
use Prim.Native.Nat.{ℕ, zero, suc, ◌+◌, ◌/◌, ◌%◌, ◌^◌, ◌≤◌, ◌<◌}
use native.Mathlib.Omega.{arith}
use native.Mathlib.Nat.{add-zero, zero-add}
use borrow.Author.Tests.{eqb-true, eqb-false, eq-eqb}
use lib.Dec.{lit<}
use lib.ListN.{get_or}
use Rattle.layout.specs.Layout.{generator_at, quadrant_at, quadrant_words, dac_at, dacs, GJ, GK, GN, GM, GP, GQ, GL, GSUM, GFM, GMODE}
use Rattle.layout.specs.Machine.{Machine, Memory, Sums, ticks_of}
use Rattle.layout_texts.specs.Texts.{run_mode_at, dac_number_at}
use Rattle.layout_texts.specs.declared.Text.TheVariants.{Of1978}
use Rattle.layout_modes.specs.Modes.{wait, running_c, read_data, write_data, write_dac}
use Rattle.machine.proofs.ValidMachine.{valid-controls}
use Rattle.delay_questions.specs.Questions.{memory_good}
use Rattle.pass_sums.specs.Sums.{generator_this, generator_last}
use Rattle.pass_model.specs.Generators.{generators_of, taken_by}
use Rattle.pass_laws.specs.Good.{Good}
use Rattle.pass_laws.specs.Settings.{SettingsKept}
use Rattle.pass_laws.proofs.Passing.{generators_done}
use Rattle.pass_laws.proofs.PassValid.{pass-valid}
use Rattle.pass_laws.proofs.PassSettings.{pass-settings}
use Rattle.base_sequences.specs.Sequences.{by_number}
use Rattle.equal_endings.specs.AsCoded.{taken_in}
use Rattle.join_model.specs.Join.{uses_word, uses_dac}
use Rattle.join_model.specs.AsCoded.{SelfContained, Stands, Bell}
use Rattle.join_model.specs.Plays.{Plays}
use Rattle.join_model.proofs.Used.{word_same, dac-same}
use Rattle.join_passes.proofs.OwnPass.{number_call, one_pass, own-generator, own-dac, own-last, own-this}
use Rattle.join_passes.proofs.Sounding.{generator-same, sums_same, dacs-same, registers-same}

-- What the settings say of a machine is as before the pass.
module _ (m : Machine) (good : Good Of1978 m) (memory : Memory) where
  abbrev next : Machine
  next = one_pass m memory

  few : ticks_of m ≤ 256
  few = (valid-controls Of1978 m good.is-valid).t_high

  kept : SettingsKept Of1978 m next
  kept = pass-settings Of1978 m (number_call m memory)

  pub ticks-kept : ticks_of next ≡ ticks_of m
  ticks-kept = kept.t

  go-kept : (g : ℕ) → g < 256 → dac_number_at Of1978 next g ≡ dac_number_at Of1978 m g
  go-kept g h = ap (λ (x : ℕ). x % 2 ^ 4) (kept.generator g h).go

  mode-kept : (g r : ℕ) → g < 256 → r ≢ wait → r ≢ running_c → run_mode_at Of1978 next g ≡ r → run_mode_at Of1978 m g ≡ r
  mode-kept g r h n c e = eqb-true (run_mode_at Of1978 m g) r (sym ((kept.generator g h).gmode_other r n c) ∙ eq-eqb (run_mode_at Of1978 next g) r e)

  pub word_kept : (w : ℕ) → uses_word next w ≡ uses_word m w
  word_kept = word_same m next ticks-kept (λ g h. (kept.generator g (omega (arith, few))).gsum) (λ g h. (kept.generator g (omega (arith, few))).gfm)

  pub dac-kept : (d : ℕ) → uses_dac next d ≡ uses_dac m d
  dac-kept =
      dac-same m next ticks-kept
      (λ g h. (kept.generator g (omega (arith, few))).gmode_other write_dac (eqb-false write_dac wait refl) (eqb-false write_dac running_c refl)) (λ g h. go-kept g (omega (arith, few)))

  own-kept : SelfContained m → SelfContained next
  own-kept l =
      record {
        no_reader = λ g h e. l.no_reader g (omega (arith, ticks-kept)) (mode-kept g read_data (omega (arith, few, ticks-kept)) (eqb-false read_data wait refl) (eqb-false read_data running_c refl) e);
        no-writer = λ g h e. l.no-writer g (omega (arith, ticks-kept)) (mode-kept g write_data (omega (arith, few, ticks-kept)) (eqb-false write_data wait refl) (eqb-false write_data running_c refl) e);
        inputs = λ g h. rw (kept.generator g (omega (arith, few, ticks-kept))).gfm (l.inputs g (omega (arith, ticks-kept)));
        inactive = λ k h. ap (λ (x : ℕ). x / 2 ^ 4) (kept.modifier k h).mmode ∙ l.inactive k h;
      }

-- The eleven registers of a generator.
each-register : (P : ℕ → Type 0) → P 0 → P GJ → P GK → P GN → P GM → P GP → P GQ → P GL → P GSUM → P GFM → P GMODE → (k : ℕ) → k < 11 → P k
each-register P a b c d e f g h i j l zero q = a
each-register P a b c d e f g h i j l (suc zero) q = b
each-register P a b c d e f g h i j l (suc (suc zero)) q = c
each-register P a b c d e f g h i j l (suc (suc (suc zero))) q = d
each-register P a b c d e f g h i j l (suc (suc (suc (suc zero)))) q = e
each-register P a b c d e f g h i j l (suc (suc (suc (suc (suc zero))))) q = f
each-register P a b c d e f g h i j l (suc (suc (suc (suc (suc (suc zero)))))) q = g
each-register P a b c d e f g h i j l (suc (suc (suc (suc (suc (suc (suc zero))))))) q = h
each-register P a b c d e f g h i j l (suc (suc (suc (suc (suc (suc (suc (suc zero)))))))) q = i
each-register P a b c d e f g h i j l (suc (suc (suc (suc (suc (suc (suc (suc (suc zero))))))))) q = j
each-register P a b c d e f g h i j l (suc (suc (suc (suc (suc (suc (suc (suc (suc (suc zero)))))))))) q = l
each-register P a b c d e f g h i j l (suc (suc (suc (suc (suc (suc (suc (suc (suc (suc (suc k))))))))))) q = absurd (omega arith)

module _ (a j : Machine) (at : ℕ) (bell : Bell a j at) (ma mj : Memory) (good-a : memory_good ma ≡ true) (good-j : memory_good mj ≡ true) where
  abbrev p : Plays a a 0 j at
  p = bell.plays

  abbrev s : Stands a j at
  s = bell.stands

  few-a : ticks_of a ≤ 256
  few-a = few a bell.alone ma

  few-j : ticks_of j ≤ 256
  few-j = few j bell.joined mj

  -- A setting's word, and a register that a turn changes.
  setting : (g k : ℕ) → get_or (one_pass j mj) (generator_at (at + g) + k) 0 ≡ get_or j (generator_at (at + g) + k) 0
      → get_or (one_pass a ma) (generator_at g + k) 0 ≡ get_or a (generator_at g + k) 0 → g < ticks_of a → k < 11
      → get_or (one_pass j mj) (generator_at (at + g) + k) 0 ≡ get_or (one_pass a ma) (generator_at g + k) 0
  setting g k x y h l = x ∙ generator-same a j at bell.alone bell.joined bell.self-contained s p g k h l ∙ sym y

  done-j : (taken_in (generators_of Of1978) j [] [] (by_number (ticks_of j))).words ≡ (generators_done Of1978 j (number_call j mj)).words
  unfolding taken_by
  done-j = refl

  done-a : (taken_in (generators_of Of1978) a [] [] (by_number (ticks_of a))).words ≡ (generators_done Of1978 a (number_call a ma)).words
  unfolding taken_by
  done-a = refl

  sums-j : (taken_in (generators_of Of1978) j [] [] (by_number (ticks_of j))).sums ≡ (generators_done Of1978 j (number_call j mj)).sums
  unfolding taken_by
  sums-j = refl

  sums-a : (taken_in (generators_of Of1978) a [] [] (by_number (ticks_of a))).sums ≡ (generators_done Of1978 a (number_call a ma)).sums
  unfolding taken_by
  sums-a = refl

  changed : (g k v : ℕ) → g < ticks_of a → k < 11 → get_or (taken_in (generators_of Of1978) j [] [] (by_number (ticks_of j))).words (generator_at (at + g) + k) 0 ≡ v
      → get_or (taken_in (generators_of Of1978) a [] [] (by_number (ticks_of a))).words (generator_at g + k) 0 ≡ v
      → get_or (one_pass j mj) (generator_at (at + g) + k) 0 ≡ get_or (one_pass a ma) (generator_at g + k) 0
  changed g k v h l x y =
      own-generator j bell.joined bell.self-contained-joined mj good-j (generator_at (at + g) + k) (omega (arith, s.room, few-j))
      ∙ ap (λ (w : Machine). get_or w (generator_at (at + g) + k) 0) (sym done-j)
      ∙ x
      ∙ sym y
      ∙ ap (λ (w : Machine). get_or w (generator_at g + k) 0) done-a
      ∙ sym (own-generator a bell.alone bell.self-contained ma good-a (generator_at g + k) (omega (arith, few-a)))

  generator-kept : (g k : ℕ) → g < ticks_of a → k < 11 → get_or (one_pass j mj) (generator_at (at + g) + k) 0 ≡ get_or (one_pass a ma) (generator_at g + k) 0
  generator-kept g k h l =
      let kj = (kept j bell.joined mj).generator (at + g) (omega (arith, s.room, few-j)) in
      let ka = (kept a bell.alone ma).generator g (omega (arith, few-a)) in
      let r = registers-same a j at bell.alone bell.joined bell.self-contained s p g h in
      each-register (λ k. get_or (one_pass j mj) (generator_at (at + g) + k) 0 ≡ get_or (one_pass a ma) (generator_at g + k) 0)
      (setting g 0 (rw (add-zero (generator_at (at + g))) kj.go) (rw (add-zero (generator_at g)) ka.go) h (lit< tt))
      (changed g GJ _ h (lit< tt) r.0.gj r.1.gj)
      (changed g GK _ h (lit< tt) r.0.gk r.1.gk)
      (setting g GN kj.gn ka.gn h (lit< tt))
      (setting g GM kj.gm ka.gm h (lit< tt))
      (setting g GP kj.gp ka.gp h (lit< tt))
      (changed g GQ _ h (lit< tt) r.0.gq r.1.gq)
      (setting g GL kj.gl ka.gl h (lit< tt))
      (setting g GSUM kj.gsum ka.gsum h (lit< tt))
      (setting g GFM kj.gfm ka.gfm h (lit< tt))
      (changed g GMODE _ h (lit< tt) r.0.gmode r.1.gmode) k l

  last-kept : (w : ℕ) → w < quadrant_words → uses_word a w ≡ true → get_or (one_pass j mj) (quadrant_at generator_last + w) 0 ≡ get_or (one_pass a ma) (quadrant_at generator_last + w) 0
  last-kept w low u =
      own-last j bell.joined bell.self-contained-joined mj good-j w low
      ∙ ap (λ (x : Sums). get_or (get_or x generator_this []) w 0) (sym sums-j)
      ∙ sums_same a j at bell.alone bell.joined bell.self-contained s p bell.self-contained-joined w low u
      ∙ ap (λ (x : Sums). get_or (get_or x generator_this []) w 0) sums-a
      ∙ sym (own-last a bell.alone bell.self-contained ma good-a w low)

  this-kept : (w : ℕ) → w < quadrant_words → uses_word a w ≡ true → get_or (one_pass j mj) (quadrant_at generator_this + w) 0 ≡ get_or (one_pass a ma) (quadrant_at generator_this + w) 0
  this-kept w low u =
      own-this j bell.joined bell.self-contained-joined mj good-j w low ∙ sym (own-this a bell.alone bell.self-contained ma good-a w low)

  fed-kept : (d : ℕ) → d < dacs → uses_dac a d ≡ true → get_or (one_pass j mj) (dac_at d) 0 ≡ get_or (one_pass a ma) (dac_at d) 0
  fed-kept d low u =
      own-dac j bell.joined bell.self-contained-joined mj good-j d low
      ∙ ap (λ (x : Machine). get_or x (dac_at d) 0) (sym done-j)
      ∙ dacs-same a j at bell.alone bell.joined bell.self-contained s p d low u
      ∙ ap (λ (x : Machine). get_or x (dac_at d) 0) done-a
      ∙ sym (own-dac a bell.alone bell.self-contained ma good-a d low)

  stands-kept : Stands (one_pass a ma) (one_pass j mj) at
  stands-kept =
      let ta = ticks-kept a bell.alone ma in
      let tj = ticks-kept j bell.joined mj in
      record {
        room = rw (ta, tj) s.room;
        words = λ h w l n low u e.
            s.words h w (omega (arith, tj)) (λ g b. n g (omega (arith, ta))) low (sym (word_kept a bell.alone ma w) ∙ u)
            (sym ((kept j bell.joined mj).generator h (omega (arith, few-j, tj))).gsum ∙ e);
        feeders = λ h d l n low u q e.
            s.feeders h d (omega (arith, tj)) (λ g b. n g (omega (arith, ta))) low (sym (dac-kept a bell.alone ma d) ∙ u)
            (mode-kept j bell.joined mj h write_dac (omega (arith, few-j, tj)) (eqb-false write_dac wait refl) (eqb-false write_dac running_c refl) q)
            (sym (go-kept j bell.joined mj h (omega (arith, few-j, tj))) ∙ e);
        seam = λ b.
            let c = s.seam b in
            let some = (valid-controls Of1978 a bell.alone.is-valid).t_low in
            let same = ap (λ (x : ℕ). x / 2 ^ 6) (((kept j bell.joined mj).generator at (omega (arith, s.room, few-j, some))).gmode c.0 c.1) in
            (λ e. c.0 (sym same ∙ e), λ e. c.1 (sym same ∙ e));
      }

  pub bell-pass : Bell (one_pass a ma) (one_pass j mj) at
  bell-pass =
      record {
        alone = pass-valid Of1978 a (number_call a ma) bell.alone;
        joined = pass-valid Of1978 j (number_call j mj) bell.joined;
        self-contained = own-kept a bell.alone ma bell.self-contained;
        self-contained-joined = own-kept j bell.joined mj bell.self-contained-joined;
        stands = stands-kept;
        plays =
            record {
              generator = λ g k h l. rw (zero-add g) (generator-kept g k (omega (arith, ticks-kept a bell.alone ma)) l);
              this = λ w h u. this-kept w h (sym (word_kept a bell.alone ma w) ∙ u);
              last = λ w h u. last-kept w h (sym (word_kept a bell.alone ma w) ∙ u);
              dac = λ d h u. fed-kept d h (sym (dac-kept a bell.alone ma d) ∙ u);
            };
      }
