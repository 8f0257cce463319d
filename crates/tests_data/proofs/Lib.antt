mod SpelledData
