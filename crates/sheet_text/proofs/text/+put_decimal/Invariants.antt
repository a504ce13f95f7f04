-- `put_decimal` writes one digit, or the digits of the hundredth and behind them the last two. The number falls from call to call.
-- Assumes nothing.
use Rattle.sheet_text.proofs.text.+put_decimal.Given as goal

abbrev pub decreases-put_decimal : goal.decreases-put_decimal
decreases-put_decimal l = l.n
