mod FirstValues
